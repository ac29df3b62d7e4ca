-- What one row's going and coming make of the index. Assumes nothing.
use mathlib.Core.Path.{◌≡◌, refl, sym, ap, ◌∙◌}
use mathlib.Core.List.{List}
use Rattle.std.specs.Prelude.{Option, None}
use Prim.Native.Nat.{ℕ, zero, suc, ◌+◌, ◌<◌, ◌≤◌}
use native.Mathlib.Decide.{ℕ_discrete}
use native.Mathlib.Omega.{arith}
use native.Mathlib.Numerals.{add-one}
use lib.ListN.{length, get_or, set, length-append}
use lib.Seq.{set-get_or, set-set}
use lib.Dec.{lit<}
use borrow.Author.Tests.{ne_eqb}
use Rattle.basics.proofs.Bools.{either}
use Rattle.basics.proofs.Below.{list_below_at}
use Rattle.rules.specs.Board.{empty}
use Rattle.rules.specs.Roster.{Roster, put}
use Rattle.rules.proofs.Rosters.{put_same}
use Rattle.membership.proofs.Flags.{flag-gone}
use Rattle.membership.proofs.Slices.{length-now, keys-set}
use Rattle.assignment_tables.specs.declared.Shape.{Shape}
use Rattle.assignment_tables.specs.Cells.{cell_key, cell_flag}
use Rattle.assignment_tables.specs.Tables.{capacity_at, sequence_at}
use Rattle.assignment_tables.proofs.CellLaws.{cell_set}
use Rattle.assignment_index.specs.declared.columns.Part.{Part}
use Rattle.assignment_index.specs.Columns.{column, records_length, members_length, Named, Placed}
use Rattle.assignment_index.specs.Index.{cell_of, records_of, part_of, part_without, by_capacity, by_value, by_sequence, part_at, members_of, roster_in, Indexed, written}
use Rattle.assignment_index.proofs.ColumnLaws.{column-here, column-past, column_last, columns_tell}
use Rattle.assignment_index.proofs.Records.{records-length, column_are, written-length, written-column, records-put}

-- ---- the members are three parts

module _ (n : ℕ) (R : List ℕ) where
  part_length : (P : Part) → length (part_of n P R) ≡ n + 1
  part_length P = length-now P.absent _ _ _ n (part_of n P R) refl ∙ sym (add-one n)

  pub members_length_lem : length (members_of n R) ≡ members_length n
  unfolding members_of
  members_length_lem = simp (length-append, part_length) (omega arith)

  pub part_there : (j : ℕ) → j < 3 → column (n + 1) j (members_of n R) ≡ part_of n (part_at j) R
  unfolding members_of
  part_there zero l = column-here (n + 1) (part_of n by_capacity R) _ (part_length by_capacity)
  part_there (suc zero) l =
      column-past (n + 1) 0 (part_of n by_capacity R) _ (part_length by_capacity) ∙ column-here (n + 1) (part_of n by_value R) _ (part_length by_value)
  part_there (suc (suc zero)) l =
      column-past (n + 1) 1 (part_of n by_capacity R) _ (part_length by_capacity)
      ∙ column-past (n + 1) 0 (part_of n by_value R) _ (part_length by_value)
      ∙ column_last (n + 1) (part_of n by_sequence R) (part_length by_sequence)
  part_there (suc (suc (suc j))) l = absurd (omega arith)

  -- and say what they are
  pub members_tell : (M : List ℕ) → length M ≡ members_length n → ((j : ℕ) → j < 3 → column (n + 1) j M ≡ part_of n (part_at j) R) → M ≡ members_of n R
  members_tell M long each = columns_tell 3 (n + 1) M (members_of n R) long members_length_lem (λ j l. each j l ∙ sym (part_there j l))

pub part-named : (n j : ℕ) → n ≤ 128 → Named n (part_at j)
part-named n zero h = record { few = h; column_named = lit< tt; flags_named = lit< tt; high_named = lit< tt; low_named = lit< tt }
part-named n (suc zero) h = record { few = h; column_named = lit< tt; flags_named = lit< tt; high_named = lit< tt; low_named = lit< tt }
part-named n (suc (suc j)) h = record { few = h; column_named = lit< tt; flags_named = lit< tt; high_named = lit< tt; low_named = lit< tt }

part-column : (j : ℕ) → j < 3 → (part_at j).column ≡ j
part-column zero l = refl
part-column (suc zero) l = refl
part-column (suc (suc zero)) l = refl
part-column (suc (suc (suc j))) l = absurd (omega arith)

-- ---- a part without a row

-- what the records have for the row does not matter
without-same : (n : ℕ) (P : Part) (R W : List ℕ) (r x h l : ℕ)
    → column n P.flags W ≡ set (column n P.flags R) r x → column n P.high W ≡ set (column n P.high R) r h → column n P.low W ≡ set (column n P.low R) r l
    → part_without n P R r ≡ part_without n P W r
without-same n P R W r x h l a b d =
    keys-set P.absent (set (column n P.flags R) r P.absent) (column n P.high R) (column n P.low R) n (part_without n P R r) r h l
    (flag-gone P.absent (column n P.flags R) r) refl
    ∙ rw (a, b, d, set-set (column n P.flags R) r x P.absent)

-- so a part without the row is the same before the row is written and after
part_without_lem : (n r v : ℕ) (c s : Option ℕ) (R W : List ℕ) → r < n → W ≡ written n r v c s R → (P : Part) → Named n P → part_without n P R r ≡ part_without n P W r
part_without_lem n r v c s R W l e P named = without-same n P R W r _ _ _ (there named.flags_named) (there named.high_named) (there named.low_named)
  where
    there : {j : ℕ} → j < 5 → column n j W ≡ set (column n j R) r (cell_of v c s j)
    there {j} b = ap (column n j) e ∙ written-column n r v c s R l j b

-- a row that is free does not stand in it
without_free : (n : ℕ) (P : Part) (R : List ℕ) (r : ℕ) → get_or (column n P.flags R) r 0 ≡ P.absent → part_without n P R r ≡ part_of n P R
without_free n P R r e = rw (← e, set-get_or (column n P.flags R) r 0)

-- ---- a row that holds nothing

-- `empty` is no value, so that it has no key
out_none : (rows columns from start : ℕ) (m k : List ℕ) (r c : ℕ) → columns ≤ c → cell_key rows columns from start m k r c ≡ None
unfolding cell_key
out_none rows columns from start m k r c h =
    either (cell_flag rows columns from m r c) (λ t. absurd (omega (arith, (cell_set rows columns from m r c t).1))) (λ f. rw f)

module _ (S : Shape) (m k : List ℕ) (few : S.values ≤ 64) (r : ℕ) where
  pub no_capacity : capacity_at S m k r empty ≡ None
  no_capacity = out_none _ _ _ _ m k r empty (omega arith)

  pub no_sequence : sequence_at S m k r empty ≡ None
  no_sequence = out_none _ _ _ _ m k r empty (omega arith)

-- what each part's flag is then
absent_cell : (j : ℕ) → cell_of empty None None (part_at j).flags ≡ (part_at j).absent
absent_cell zero = refl
absent_cell (suc zero) = refl
absent_cell (suc (suc j)) = refl

-- so that it is free in every part
part_free : (S : Shape) (m k : List ℕ) → S.rows ≤ 128 → S.values ≤ 64 → (h : Roster) (r : ℕ) → r < S.rows → h r ≡ empty → (R : List ℕ)
    → R ≡ records_of S.rows (capacity_at S m k) (sequence_at S m k) h → (j : ℕ) → part_without S.rows (part_at j) R r ≡ part_of S.rows (part_at j) R
part_free S m k few_rows few h r l nothing R right j =
    without_free S.rows (part_at j) R r
    (ap (λ (x : List ℕ). get_or x r 0)
    (ap (column S.rows (part_at j).flags) right
    ∙ column_are S.rows (capacity_at S m k) (sequence_at S m k) h (part_at j).flags (part-named S.rows j few_rows).flags_named)
    ∙ list_below_at S.rows _ r 0 l ∙ rw (nothing, no_capacity S m k few r, no_sequence S m k few r) (absent_cell j))

-- ---- part after part

-- of three columns, those before the i-th are changed already, and the others still as they were
pub record Turning (n i : ℕ) (before after : ℕ → List ℕ) (M : List ℕ) : Type 0 where
  pub long : length M ≡ members_length n
  pub done : (j : ℕ) → j < i → column (n + 1) j M ≡ after j
  pub left : (j : ℕ) → i ≤ j → j < 3 → column (n + 1) j M ≡ before j

turn : (n i : ℕ) (before after : ℕ → List ℕ) (M M' : List ℕ) → i < 3 → Turning n i before after M → Placed (n + 1) i M M' (after i) → Turning n (i + 1) before after M'
turn n i before after M M' b t p = record {
  long = p.long ∙ t.long;
  done = λ j l. elim (ℕ_discrete j i) [
    | yes e ↦ ap (λ (x : ℕ). column (n + 1) x M') e ∙ p.here ∙ ap after (sym e)
    | no q ↦ p.rest j (ne_eqb j i q) (omega arith) ∙ t.done j (omega arith)
  ];
  left = λ j l h. p.rest j (ne_eqb j i (λ e. absurd (omega arith))) h ∙ t.left j (omega arith) h;
}

-- ---- an index, and what each step on it asks and leaves

abbrev Leaving : ℕ → Part → List ℕ → List ℕ → ℕ → Type 0
Leaving n P R M r =
    Named n P
    × (((length R ≡ records_length n) × (length M ≡ members_length n) × (r < n)) × (column (n + 1) P.column M ≡ part_of n P R))

abbrev Joining : ℕ → Part → List ℕ → List ℕ → ℕ → Type 0
Joining n P R M r =
    Named n P
    × (((length R ≡ records_length n) × (length M ≡ members_length n) × (r < n)) × (column (n + 1) P.column M ≡ part_without n P R r))

module _ (S : Shape) (m k R M : List ℕ) (w : Indexed S m k R M) where
  pub records_long : length R ≡ records_length S.rows
  records_long = ap length w.records_right ∙ records-length S.rows _ _ _

  pub members_long : length M ≡ members_length S.rows
  members_long = ap length w.members_right ∙ members_length_lem S.rows R

  pub part-now : (j : ℕ) → j < 3 → column (S.rows + 1) j M ≡ part_of S.rows (part_at j) R
  part-now j l = ap (column (S.rows + 1) j) w.members_right ∙ part_there S.rows R j l

  few_now : S.rows ≤ 128
  few_now = w.marked.small.few_rows

  few_values : S.values ≤ 64
  few_values = w.marked.small.few_values

  -- the records with a row's value and keys written
  module _ (r v : ℕ) (l : r < S.rows) (R' : List ℕ) (e : R' ≡ written S.rows r v (capacity_at S m k r v) (sequence_at S m k r v) R) where
    pub records-after : R' ≡ records_of S.rows (capacity_at S m k) (sequence_at S m k) (put (roster_in S.rows R) r v)
    records-after =
        e ∙ ap (written S.rows r v (capacity_at S m k r v) (sequence_at S m k r v)) w.records_right
        ∙ records-put S.rows (capacity_at S m k) (sequence_at S m k) (roster_in S.rows R) r v l

  -- a row leaves part after part, and then its records are emptied
  module _ (r : ℕ) (l : r < S.rows) where
    abbrev pub Parting : ℕ → List ℕ → Type 0
    Parting i X = Turning S.rows i (λ j. part_of S.rows (part_at j) R) (λ j. part_without S.rows (part_at j) R r) X

    pub in_all : Parting 0 M
    in_all = record { long = members_long; done = λ j b. absurd (omega arith); left = λ j _ b. part-now j b }

    pub leaves : (i : ℕ) → i < 3 → (X : List ℕ) → Parting i X → (P : Part) → P ≡ part_at i → Leaving S.rows P R X r
    leaves i b X t P p =
        rw p (part-named S.rows i few_now, ((records_long, t.long, l), ap (λ (x : ℕ). column (S.rows + 1) x X) (part-column i b) ∙ t.left i (omega arith) b))

    pub one_less : (i : ℕ) → i < 3 → (X Y : List ℕ) → Parting i X → (P : Part) → P ≡ part_at i
        → Placed (S.rows + 1) P.column X Y (part_without S.rows P R r) → Parting (i + 1) Y
    one_less i b X Y t P p a = turn S.rows i _ _ X Y b t (rw (p, part-column i b) at a)

    pub members_left : (X : List ℕ) → Parting 3 X → (R' : List ℕ) → R' ≡ written S.rows r empty (capacity_at S m k r empty) (sequence_at S m k r empty) R → X ≡ members_of S.rows R'
    members_left X t R' e =
        members_tell S.rows R' X t.long (λ j b.
        t.done j b ∙ part_without_lem S.rows r empty _ _ R R' l e (part_at j) (part-named S.rows j few_now)
        ∙ part_free S m k few_now few_values (put (roster_in S.rows R) r empty) r l (put_same (roster_in S.rows R) r empty) R' (records-after r empty l R' e) j)

  -- a row that holds nothing has its records written, and then joins part after part
  module _ (r v : ℕ) (l : r < S.rows) (nothing : roster_in S.rows R r ≡ empty) (R' : List ℕ)
      (e : R' ≡ written S.rows r v (capacity_at S m k r v) (sequence_at S m k r v) R) where
    write_long : length R' ≡ records_length S.rows
    write_long = ap length e ∙ written-length S.rows r v _ _ R l ∙ records_long

    abbrev pub Coming : ℕ → List ℕ → Type 0
    Coming i X = Turning S.rows i (λ j. part_without S.rows (part_at j) R' r) (λ j. part_of S.rows (part_at j) R') X

    pub in_none : Coming 0 M
    in_none = record {
      long = members_long;
      done = λ j b. absurd (omega arith);
      left = λ j _ b.
          part-now j b ∙ sym (part_free S m k few_now few_values _ r l nothing R w.records_right j)
          ∙ part_without_lem S.rows r v _ _ R R' l e (part_at j) (part-named S.rows j few_now);
    }

    pub joins : (i : ℕ) → i < 3 → (X : List ℕ) → Coming i X → (P : Part) → P ≡ part_at i → Joining S.rows P R' X r
    joins i b X t P p =
        rw p (part-named S.rows i few_now, ((write_long, t.long, l), ap (λ (x : ℕ). column (S.rows + 1) x X) (part-column i b) ∙ t.left i (omega arith) b))

    pub one_more_lem : (i : ℕ) → i < 3 → (X Y : List ℕ) → Coming i X → (P : Part) → P ≡ part_at i
        → Placed (S.rows + 1) P.column X Y (part_of S.rows P R') → Coming (i + 1) Y
    one_more_lem i b X Y t P p a = turn S.rows i _ _ X Y b t (rw (p, part-column i b) at a)

    pub members_joined : (X : List ℕ) → Coming 3 X → X ≡ members_of S.rows R'
    members_joined X t = members_tell S.rows R' X t.long (λ j b. t.done j b)
