-- Whose rows the parts of the members list: the holders of a key, the rows of a value, the rows at a place. Assumes nothing.
use Prim.Native.Nat.{ℕ, ◌<◌}
use mathlib.Core.Path.{◌≡◌, refl, sym, ap, ◌∙◌}
use mathlib.Core.Bool.{Bool, true, false, not, ◌&&◌}
use mathlib.Core.List.{List}
use Rattle.std.specs.Prelude.{Option, None, Some}
use lib.ListN.{get_or}
use lib.Dec.{eqb, lit<}
use borrow.Author.Tests.{eqb-true, ne_eqb}
use Rattle.basics.specs.Tests.{all_of_below, is, list_below}
use Rattle.basics.proofs.Bools.{either, and_false, and_swap, eqb_sym}
use Rattle.basics.proofs.Below.{all_of_below-same, list_below-length, list_below_at}
use Rattle.rules.specs.Board.{empty}
use Rattle.rules.specs.Roster.{Roster}
use Rattle.membership.specs.Canonical.{is_member, key_rows}
use Rattle.membership.proofs.Flags.{flag_at}
use Rattle.assignment_index.specs.declared.columns.Part.{Part}
use Rattle.assignment_index.specs.Columns.{column}
use Rattle.assignment_index.specs.Index.{given_number, key_number, cell_of, records_of, part_rows, by_capacity, by_value, by_sequence}
use Rattle.assignment_index.proofs.Records.{column_are}

-- a recorded key is k exactly where the key is
pub key_recorded : (o : Option ℕ) (k : ℕ) → not (eqb (given_number o) 0) && eqb (key_number o) k ≡ is k o
unfolding is
key_recorded None k = refl
key_recorded (Some n) k = eqb_sym n k

module _ (n : ℕ) (capacity sequence : ℕ → ℕ → Option ℕ) (h : Roster) (R : List ℕ) (e : R ≡ records_of n capacity sequence h) where
  -- the cell of a row in the j-th column
  abbrev cell : ℕ → ℕ → ℕ
  cell j r = cell_of (h r) (capacity r (h r)) (sequence r (h r)) j

  pub cell_at : (j : ℕ) → j < 5 → (r : ℕ) → r < n → get_or (column n j R) r 0 ≡ cell j r
  cell_at j b r l = ap (λ (c : List ℕ). get_or c r 0) (ap (column n j) e ∙ column_are n capacity sequence h j b) ∙ list_below_at n (cell j) r 0 l

  flag_there : (absent j : ℕ) → j < 5 → (r : ℕ) → r < n → is_member absent (column n j R) r ≡ not (eqb (cell j r) absent)
  flag_there absent j b r l =
      let c : column n j R ≡ list_below n (cell j) = ap (column n j) e ∙ column_are n capacity sequence h j b in
      rw c (flag_at absent (list_below n (cell j)) r (rw (list_below-length n (cell j)) l) ∙ ap (λ (x : ℕ). not (eqb x absent)) (list_below_at n (cell j) r 0 l))

  -- of any part: the rows that have a flag there, and both halves of the key
  part_rows_lem : (P : Part) → P.flags < 5 → P.high < 5 → P.low < 5 → (high low : ℕ)
      → part_rows n P R high low ≡ all_of_below n (λ (r : ℕ). not (eqb (cell P.flags r) P.absent) && (eqb (cell P.high r) high && eqb (cell P.low r) low))
  unfolding key_rows
  part_rows_lem P a b c high low =
      all_of_below-same _ _ n
      (λ r l. rw (flag_there P.absent P.flags a r l, cell_at P.high b r l, cell_at P.low c r l))

  pub capacity_rows : (k : ℕ) → part_rows n by_capacity R k k ≡ all_of_below n (λ (r : ℕ). is k (capacity r (h r)))
  capacity_rows k =
      part_rows_lem by_capacity (lit< tt) (lit< tt) (lit< tt) k k
      ∙ all_of_below-same _ _ n (λ r l.
      ap (λ (b : Bool). not (eqb (given_number (capacity r (h r))) 0) && b) (twice (eqb (key_number (capacity r (h r))) k)) ∙ key_recorded (capacity r (h r)) k)
    where
      twice : (b : Bool) → b && b ≡ b
      twice true = refl
      twice false = refl

  pub place_rows : (v s : ℕ) → part_rows n by_sequence R v s ≡ all_of_below n (λ (r : ℕ). eqb (h r) v && is s (sequence r (h r)))
  place_rows v s =
      part_rows_lem by_sequence (lit< tt) (lit< tt) (lit< tt) v s
      ∙ all_of_below-same _ _ n (λ r l.
      and_swap (not (eqb (given_number (sequence r (h r))) 0)) (eqb (h r) v) (eqb (key_number (sequence r (h r))) s) ∙ ap (λ (b : Bool). eqb (h r) v && b) (key_recorded (sequence r (h r)) s))

  pub value_rows : (v : ℕ) → (v ≡ empty → ⊥) → part_rows n by_value R v v ≡ all_of_below n (λ (r : ℕ). eqb (h r) v)
  value_rows v q = part_rows_lem by_value (lit< tt) (lit< tt) (lit< tt) v v ∙ all_of_below-same _ _ n (λ r l. is-value (h r))
    where
      is-value : (x : ℕ) → not (eqb x empty) && (eqb x v && eqb x v) ≡ eqb x v
      is-value x =
          either (eqb x v)
          (λ t. rw (t, ne_eqb x empty (λ z. q (sym (eqb-true x v t) ∙ z))))
          (λ f. rw f (and_false (not (eqb x empty))))

  pub members_by_value : (r : ℕ) → r < n → is_member empty (column n 0 R) r ≡ not (eqb (h r) empty)
  members_by_value r l = flag_there empty 0 (lit< tt) r l
