-- The records of a roster: their columns, what writing a row makes of them, and the roster that they hold. Assumes nothing.
use mathlib.Core.Path.{◌≡◌, refl, sym, ap, fun_ext, ◌∙◌}
use mathlib.Core.List.{List, ◌++◌}
use Rattle.std.specs.Prelude.{Option}
use Prim.Native.Nat.{ℕ, zero, suc, ◌+◌, ◌*◌, ◌<◌, ◌≤◌}
use native.Mathlib.Omega.{arith}
use lib.ListN.{length, set, length-append, length-set, get_or-eq_default}
use Rattle.basics.specs.Tests.{list_below}
use Rattle.basics.proofs.Bools.{by}
use Rattle.basics.proofs.Below.{list_below-length, list_below_at, list_below-set}
use Rattle.rules.specs.Board.{empty}
use Rattle.rules.specs.Roster.{Roster, put}
use Rattle.rules.proofs.Rosters.{put_same, put_other}
use Rattle.assignment_index.specs.Columns.{column}
use Rattle.assignment_index.specs.Index.{given_number, key_number, cell_of, records_of, roster_in, written}
use Rattle.assignment_index.proofs.ColumnLaws.{column-here, column-past, column_last, column-set, column-set-other, columns_tell}

-- five columns put together
module _ (n : ℕ) (a b c d e : List ℕ) (u : length a ≡ n) (v : length b ≡ n) (w : length c ≡ n) (x : length d ≡ n) (y : length e ≡ n) where
  abbrev five : List ℕ
  five = a ++ (b ++ (c ++ (d ++ e)))

  first_of : column n 0 five ≡ a
  first_of = column-here n a _ u

  second_of : column n 1 five ≡ b
  second_of = column-past n 0 a _ u ∙ column-here n b _ v

  third_of : column n 2 five ≡ c
  third_of = column-past n 1 a _ u ∙ column-past n 0 b _ v ∙ column-here n c _ w

  fourth_of : column n 3 five ≡ d
  fourth_of = column-past n 2 a _ u ∙ column-past n 1 b _ v ∙ column-past n 0 c _ w ∙ column-here n d _ x

  fifth_of : column n 4 five ≡ e
  fifth_of = column-past n 3 a _ u ∙ column-past n 2 b _ v ∙ column-past n 1 c _ w ∙ column-past n 0 d _ x ∙ column_last n e y

module _ (n : ℕ) (capacity sequence : ℕ → ℕ → Option ℕ) where
  module _ (h : Roster) where
    abbrev R : List ℕ
    R = records_of n capacity sequence h

    abbrev held : List ℕ
    held = list_below n h

    abbrev givens : List ℕ
    givens = list_below n (λ (r : ℕ). given_number (capacity r (h r)))

    abbrev capacities : List ℕ
    capacities = list_below n (λ (r : ℕ). key_number (capacity r (h r)))

    abbrev sequence-givens : List ℕ
    sequence-givens = list_below n (λ (r : ℕ). given_number (sequence r (h r)))

    abbrev sequences : List ℕ
    sequences = list_below n (λ (r : ℕ). key_number (sequence r (h r)))

    pub records-length : length R ≡ 5 * n
    unfolding records_of
    records-length = simp (length-append, list_below-length) (omega arith)

    pub values_are : column n 0 R ≡ held
    unfolding records_of
    values_are = first_of n held givens capacities sequence-givens sequences (list_below-length n _) (list_below-length n _) (list_below-length n _) (list_below-length n _) (list_below-length n _)

    pub capacity-given_are : column n 1 R ≡ givens
    unfolding records_of
    capacity-given_are = second_of n held givens capacities sequence-givens sequences (list_below-length n _) (list_below-length n _) (list_below-length n _) (list_below-length n _) (list_below-length n _)

    pub capacities_are : column n 2 R ≡ capacities
    unfolding records_of
    capacities_are = third_of n held givens capacities sequence-givens sequences (list_below-length n _) (list_below-length n _) (list_below-length n _) (list_below-length n _) (list_below-length n _)

    pub sequence-given_are : column n 3 R ≡ sequence-givens
    unfolding records_of
    sequence-given_are = fourth_of n held givens capacities sequence-givens sequences (list_below-length n _) (list_below-length n _) (list_below-length n _) (list_below-length n _) (list_below-length n _)

    pub sequences_are : column n 4 R ≡ sequences
    unfolding records_of
    sequences_are = fifth_of n held givens capacities sequence-givens sequences (list_below-length n _) (list_below-length n _) (list_below-length n _) (list_below-length n _) (list_below-length n _)

    -- the same by the column's number
    pub column_are : (j : ℕ) → j < 5 → column n j R ≡ list_below n (λ (r : ℕ). cell_of (h r) (capacity r (h r)) (sequence r (h r)) j)
    column_are zero l = values_are
    column_are (suc zero) l = capacity-given_are
    column_are (suc (suc zero)) l = capacities_are
    column_are (suc (suc (suc zero))) l = sequence-given_are
    column_are (suc (suc (suc (suc zero)))) l = sequences_are
    column_are (suc (suc (suc (suc (suc j))))) l = absurd (omega arith)

    -- a roster that holds nothing past its rows is the one that its records hold
    pub roster_back : ((r : ℕ) → n ≤ r → h r ≡ empty) → roster_in n R ≡ h
    roster_back f =
        fun_ext (λ r. rw values_are
        (by r n (λ l. list_below_at n h r empty l) (λ l. get_or-eq_default (list_below n h) empty (rw (list_below-length n h) l) ∙ sym (f r l))))

-- the columns of records with a row written
module _ (n r v : ℕ) (c s : Option ℕ) (R : List ℕ) (l : r < n) where
  abbrev W : List ℕ
  W = written n r v c s R

  pub written-length : length W ≡ length R
  unfolding written
  written-length = simp length-set

  written-value : column n 0 W ≡ set (column n 0 R) r v
  unfolding written
  written-value =
      column-set-other n 0 4 _ r _ refl l ∙ column-set-other n 0 3 _ r _ refl l ∙ column-set-other n 0 2 _ r _ refl l ∙ column-set-other n 0 1 _ r _ refl l
      ∙ column-set n 0 R r v l

  written-capacity-given : column n 1 W ≡ set (column n 1 R) r (given_number c)
  unfolding written
  written-capacity-given =
      column-set-other n 1 4 _ r _ refl l ∙ column-set-other n 1 3 _ r _ refl l ∙ column-set-other n 1 2 _ r _ refl l ∙ column-set n 1 _ r _ l
      ∙ ap (λ (x : List ℕ). set x r (given_number c)) (column-set-other n 1 0 R r v refl l)

  written-capacity : column n 2 W ≡ set (column n 2 R) r (key_number c)
  unfolding written
  written-capacity =
      column-set-other n 2 4 _ r _ refl l ∙ column-set-other n 2 3 _ r _ refl l ∙ column-set n 2 _ r _ l
      ∙ ap (λ (x : List ℕ). set x r (key_number c)) (column-set-other n 2 1 _ r _ refl l ∙ column-set-other n 2 0 R r v refl l)

  written-sequence-given : column n 3 W ≡ set (column n 3 R) r (given_number s)
  unfolding written
  written-sequence-given =
      column-set-other n 3 4 _ r _ refl l ∙ column-set n 3 _ r _ l
      ∙ ap (λ (x : List ℕ). set x r (given_number s)) (column-set-other n 3 2 _ r _ refl l ∙ column-set-other n 3 1 _ r _ refl l ∙ column-set-other n 3 0 R r v refl l)

  written-sequence : column n 4 W ≡ set (column n 4 R) r (key_number s)
  unfolding written
  written-sequence =
      column-set n 4 _ r _ l
      ∙ ap (λ (x : List ℕ). set x r (key_number s)) (column-set-other n 4 3 _ r _ refl l ∙ column-set-other n 4 2 _ r _ refl l ∙ column-set-other n 4 1 _ r _ refl l ∙ column-set-other n 4 0 R r v refl l)

  -- the same by the column's number
  pub written-column : (j : ℕ) → j < 5 → column n j W ≡ set (column n j R) r (cell_of v c s j)
  written-column zero b = written-value
  written-column (suc zero) b = written-capacity-given
  written-column (suc (suc zero)) b = written-capacity
  written-column (suc (suc (suc zero))) b = written-sequence-given
  written-column (suc (suc (suc (suc zero)))) b = written-sequence
  written-column (suc (suc (suc (suc (suc j))))) b = absurd (omega arith)

-- writing a row's value and keys makes the records of the roster with that row set
module _ (n : ℕ) (capacity sequence : ℕ → ℕ → Option ℕ) (h : Roster) (r v : ℕ) (l : r < n) where
  changed : (f : ℕ → ℕ → ℕ) → set (list_below n (λ (i : ℕ). f i (h i))) r (f r v) ≡ list_below n (λ (i : ℕ). f i (put h r v i))
  changed f =
      ap (set (list_below n (λ (i : ℕ). f i (h i))) r) (ap (f r) (sym (put_same h r v)))
      ∙ list_below-set n (λ (i : ℕ). f i (h i)) (λ (i : ℕ). f i (put h r v i)) r l (λ j b q. ap (f j) (put_other h r v q))

  pub records-put : written n r v (capacity r v) (sequence r v) (records_of n capacity sequence h) ≡ records_of n capacity sequence (put h r v)
  records-put =
      columns_tell 5 n _ _ (written-length n r v _ _ _ l ∙ records-length n capacity sequence h) (records-length n capacity sequence (put h r v)) each
    where
      each : (j : ℕ) → j < 5 → column n j (written n r v (capacity r v) (sequence r v) (records_of n capacity sequence h)) ≡ column n j (records_of n capacity sequence (put h r v))
      each j b =
          written-column n r v _ _ _ l j b
          ∙ ap (λ (x : List ℕ). set x r (cell_of v (capacity r v) (sequence r v) j)) (column_are n capacity sequence h j b)
          ∙ changed (λ i x. cell_of x (capacity i x) (sequence i x) j)
          ∙ sym (column_are n capacity sequence (put h r v) j b)

-- ---- what the code writes

-- five cells put one after the other
pub cells-written : (n r v g k g' k' : ℕ) (c s : Option ℕ) (R R₁ R₂ R₃ R₄ R₅ : List ℕ)
    → g ≡ given_number c → k ≡ key_number c → g' ≡ given_number s → k' ≡ key_number s
    → R₁ ≡ set R (0 * n + r) v → R₂ ≡ set R₁ (1 * n + r) g → R₃ ≡ set R₂ (2 * n + r) k → R₄ ≡ set R₃ (3 * n + r) g' → R₅ ≡ set R₄ (4 * n + r) k'
    → R₅ ≡ written n r v c s R
unfolding written
cells-written n r v g k g' k' c s R R₁ R₂ R₃ R₄ R₅ p q p' q' e₁ e₂ e₃ e₄ e₅ = rw (e₅, e₄, e₃, e₂, e₁, p, q, p', q')
