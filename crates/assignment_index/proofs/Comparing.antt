-- What comparing an index with the one that its roster gives comes to: the keys of each row, and the three parts. Assumes nothing.
use mathlib.Core.Path.{◌≡◌, refl, sym, ap, ◌∙◌}
use mathlib.Core.Bool.{Bool, true, false, not, ◌&&◌}
use mathlib.Core.List.{List}
use Rattle.std.specs.Prelude.{Option}
use Prim.Native.Nat.{ℕ, zero, suc, ◌+◌, ◌<◌}
use native.Mathlib.Omega.{arith}
use lib.ListN.{length, get_or}
use lib.Dec.{eqb, lit<}
use borrow.Author.Tests.{eqb-true, eq-eqb, not-true, not-false}
use Rattle.basics.proofs.Maps.{get_d_any}
use Rattle.basics.specs.Tests.{all_below, list_below, same_numbers}
use Rattle.basics.proofs.Bools.{same_test, and_left, and_right, and_join}
use Rattle.basics.proofs.Lists.{same_numbers_iff}
use Rattle.basics.proofs.Below.{all_below_at, all_below_of, list_below_at, list_below_of}
use Rattle.rules.specs.Board.{empty}
use Rattle.assignment_tables.specs.declared.Shape.{Shape}
use Rattle.assignment_tables.specs.Layout.{Marked, keys_length}
use Rattle.assignment_tables.specs.Tables.{capacity_at, sequence_at}
use Rattle.assignment_index.specs.Columns.{column, records_length, members_length}
use Rattle.assignment_index.specs.Index.{given_number, key_number, records_of, part_of, by_capacity, by_value, by_sequence, part_at, members_of, roster_in, key_right, row_right, is_index, Indexed}
use Rattle.assignment_index.proofs.ColumnLaws.{columns_tell}
use Rattle.assignment_index.proofs.PartLaws.{column_long}
use Rattle.assignment_index.proofs.Records.{records-length, values_are, capacity-given_are, capacities_are, sequence-given_are, sequences_are}
use Rattle.assignment_index.proofs.Changes.{part_there, members_tell}

-- ---- the records, row by row

module _ (n : ℕ) (R : List ℕ) (j r : ℕ) (o : Option ℕ) where
  pub key_right_lem : key_right n R j r o ≡ true → (get_or (column n j R) r 0 ≡ given_number o) × (get_or (column n (j + 1) R) r 0 ≡ key_number o)
  unfolding key_right
  key_right_lem h = (eqb-true _ _ (and_left (eqb (get_or (column n j R) r 0) (given_number o)) _ h), eqb-true _ _ (and_right (eqb (get_or (column n j R) r 0) (given_number o)) _ h))

  pub right_key : get_or (column n j R) r 0 ≡ given_number o → get_or (column n (j + 1) R) r 0 ≡ key_number o → key_right n R j r o ≡ true
  unfolding key_right
  right_key p q = and_join (eq-eqb _ _ p) (eq-eqb _ _ q)

  -- the two cells as the code compares them
  pub key_compared : (x y u v : ℕ) → x ≡ given_number o → y ≡ key_number o → u ≡ get_or (column n j R) r 0 → v ≡ get_or (column n (j + 1) R) r 0
      → eqb u x && eqb v y ≡ key_right n R j r o
  unfolding key_right
  key_compared x y u v a b c d = rw (a, b, c, d)

module _ (S : Shape) (m k R : List ℕ) (long : length R ≡ records_length S.rows) where
  abbrev n : ℕ
  n = S.rows

  abbrev right : List ℕ
  right = records_of S.rows (capacity_at S m k) (sequence_at S m k) (roster_in S.rows R)

  abbrev capacity : ℕ → Option ℕ
  capacity r = capacity_at S m k r (roster_in S.rows R r)

  abbrev sequence : ℕ → Option ℕ
  sequence r = sequence_at S m k r (roster_in S.rows R r)

  -- records that are right are right in each row
  row_of_lem : R ≡ right → (r : ℕ) → r < n → row_right S m k R r ≡ true
  unfolding row_right
  row_of_lem e r l =
      and_join
      (right_key n R 1 r (capacity r) (cell-is 1 _ (capacity-given_are n _ _ _)) (cell-is 2 _ (capacities_are n _ _ _)))
      (right_key n R 3 r (sequence r) (cell-is 3 _ (sequence-given_are n _ _ _)) (cell-is 4 _ (sequences_are n _ _ _)))
    where
      cell-is : (j : ℕ) (f : ℕ → ℕ) → column n j right ≡ list_below n f → get_or (column n j R) r 0 ≡ f r
      cell-is j f q = ap (λ (x : List ℕ). get_or x r 0) (ap (column n j) e ∙ q) ∙ list_below_at n f r 0 l

  -- and the other way round
  rows_tell : ((r : ℕ) → r < n → row_right S m k R r ≡ true) → R ≡ right
  unfolding row_right
  rows_tell f = columns_tell 5 n R right long (records-length n _ _ _) each
    where
      capacity_at_lem : (r : ℕ) → r < n → (get_or (column n 1 R) r 0 ≡ given_number (capacity r)) × (get_or (column n 2 R) r 0 ≡ key_number (capacity r))
      capacity_at_lem r l = key_right_lem n R 1 r (capacity r) (and_left (key_right n R 1 r (capacity r)) _ (f r l))

      sequence_at_lem : (r : ℕ) → r < n → (get_or (column n 3 R) r 0 ≡ given_number (sequence r)) × (get_or (column n 4 R) r 0 ≡ key_number (sequence r))
      sequence_at_lem r l = key_right_lem n R 3 r (sequence r) (and_right (key_right n R 1 r (capacity r)) _ (f r l))

      each : (j : ℕ) → j < 5 → column n j R ≡ column n j right
      each zero h = list_below_of n _ empty (column n 0 R) (column_long n 0 R long h) (λ r l. refl) ∙ sym (values_are n _ _ _)
      each (suc zero) h = list_below_of n _ 0 (column n 1 R) (column_long n 1 R long h) (λ r l. (capacity_at_lem r l).0) ∙ sym (capacity-given_are n _ _ _)
      each (suc (suc zero)) h = list_below_of n _ 0 (column n 2 R) (column_long n 2 R long h) (λ r l. (capacity_at_lem r l).1) ∙ sym (capacities_are n _ _ _)
      each (suc (suc (suc zero))) h = list_below_of n _ 0 (column n 3 R) (column_long n 3 R long h) (λ r l. (sequence_at_lem r l).0) ∙ sym (sequence-given_are n _ _ _)
      each (suc (suc (suc (suc zero)))) h = list_below_of n _ 0 (column n 4 R) (column_long n 4 R long h) (λ r l. (sequence_at_lem r l).1) ∙ sym (sequences_are n _ _ _)
      each (suc (suc (suc (suc (suc j))))) h = absurd (omega arith)

  pub records-same : same_numbers R right ≡ all_below n (row_right S m k R)
  records-same =
      same_test _ _
      (λ h. all_below_of (row_right S m k R) n (row_of_lem ((same_numbers_iff R right).0 h)))
      (λ h. (same_numbers_iff R right).1 (rows_tell (all_below_at (row_right S m k R) n h)))

  -- the value of a row as the code reads it
  pub value_read : (r v : ℕ) → r < n → v ≡ get_or (column n 0 R) r 0 → v ≡ roster_in n R r
  value_read r v l e = e ∙ get_d_any 0 empty (column n 0 R) r (omega (arith, column_long n 0 R long (omega arith)))

  -- what the code finds of one row: its keys by the value v that it read
  module _ (r v : ℕ) (l : r < n) (e : v ≡ get_or (column n 0 R) r 0) (q : Option ℕ) (looked : q ≡ capacity_at S m k r v) (b : Bool) (is : b ≡ key_right n R 1 r q) where
    capacity-found : b ≡ key_right n R 1 r (capacity r)
    capacity-found = is ∙ ap (key_right n R 1 r) (looked ∙ ap (capacity_at S m k r) (value_read r v l e))

    pub row_fails : not b ≡ true → false ≡ row_right S m k R r
    unfolding row_right
    row_fails f = rw (← capacity-found, not-true b f)

    pub row-passes : not b ≡ false → (q' : Option ℕ) → q' ≡ sequence_at S m k r v → (d : Bool) → d ≡ key_right n R 3 r q' → d ≡ row_right S m k R r
    unfolding row_right
    row-passes t q' looked' d is' =
        rw (← capacity-found, not-false b t) (is' ∙ ap (key_right n R 3 r) (looked' ∙ ap (sequence_at S m k r) (value_read r v l e)))

-- ---- the members, part by part

module _ (n : ℕ) (R M : List ℕ) (long : length M ≡ members_length n) where
  abbrev first : Bool
  first = same_numbers (column (n + 1) 0 M) (part_of n by_capacity R)

  abbrev second : Bool
  second = same_numbers (column (n + 1) 1 M) (part_of n by_value R)

  abbrev third : Bool
  third = same_numbers (column (n + 1) 2 M) (part_of n by_sequence R)

  pub members_same : same_numbers M (members_of n R) ≡ first && (second && third)
  members_same = same_test _ _ apart together
    where
      apart : same_numbers M (members_of n R) ≡ true → first && (second && third) ≡ true
      apart h =
          let e = (same_numbers_iff M (members_of n R)).0 h in
          and_join ((same_numbers_iff _ _).1 (ap (column (n + 1) 0) e ∙ part_there n R 0 (lit< tt)))
          (and_join ((same_numbers_iff _ _).1 (ap (column (n + 1) 1) e ∙ part_there n R 1 (lit< tt))) ((same_numbers_iff _ _).1 (ap (column (n + 1) 2) e ∙ part_there n R 2 (lit< tt))))

      together : first && (second && third) ≡ true → same_numbers M (members_of n R) ≡ true
      together h =
          let rest = and_right first _ h in
          (same_numbers_iff M (members_of n R)).1
          (members_tell n R M long (each (and_left first _ h) (and_left second _ rest) (and_right second _ rest)))
        where
          each : first ≡ true → second ≡ true → third ≡ true → (j : ℕ) → j < 3 → column (n + 1) j M ≡ part_of n (part_at j) R
          each a b c zero l = (same_numbers_iff _ _).0 a
          each a b c (suc zero) l = (same_numbers_iff _ _).0 b
          each a b c (suc (suc zero)) l = (same_numbers_iff _ _).0 c
          each a b c (suc (suc (suc j))) l = absurd (omega arith)

  -- what the code finds of the parts
  module _ (a : Bool) (p : a ≡ first) where
    pub first_fails : not a ≡ true → false ≡ same_numbers M (members_of n R)
    first_fails f = rw (members_same, ← p, not-true a f)

    module _ (t : not a ≡ false) (b : Bool) (q : b ≡ second) where
      pub second_fails : not b ≡ true → false ≡ same_numbers M (members_of n R)
      second_fails f = rw (members_same, ← p, not-false a t, ← q, not-true b f)

      pub third_decides : not b ≡ false → (d : Bool) → d ≡ third → d ≡ same_numbers M (members_of n R)
      third_decides u d s = rw (members_same, ← p, not-false a t, ← q, not-false b u) s

-- ---- the whole index

module _ (S : Shape) (m k R M : List ℕ) (long : length R ≡ records_length S.rows) (b : Bool) (is : b ≡ all_below S.rows (row_right S m k R)) where
  pub index_fails : not b ≡ true → false ≡ is_index S m k R M
  unfolding is_index
  index_fails f = rw (records-same S m k R long, ← is, not-true b f)

  pub index_decides : not b ≡ false → (d : Bool) → d ≡ same_numbers M (members_of S.rows R) → d ≡ is_index S m k R M
  unfolding is_index
  index_decides t d e = rw (records-same S m k R long, ← is, not-false b t) e

-- the test and the facts: for the crates above
module _ (S : Shape) (m k R M : List ℕ) where
  abbrev records_match : Bool
  records_match = same_numbers R (records_of S.rows (capacity_at S m k) (sequence_at S m k) (roster_in S.rows R))

  pub found_indexed : Marked S m → length k ≡ keys_length S → is_index S m k R M ≡ true → Indexed S m k R M
  unfolding is_index
  found_indexed marked keys_long h = record {
    marked = marked;
    keys_long = keys_long;
    records_right = (same_numbers_iff R _).0 (and_left records_match _ h);
    members_right = (same_numbers_iff M _).0 (and_right records_match _ h);
  }

  pub indexed_found : Indexed S m k R M → is_index S m k R M ≡ true
  unfolding is_index
  indexed_found w = and_join ((same_numbers_iff R _).1 w.records_right) ((same_numbers_iff M _).1 w.members_right)
