-- The index of a roster where nobody holds anything: `empty` in the column of values, and zeros. Assumes nothing.
use mathlib.Core.Path.{◌≡◌, refl, sym, ap, ap₂, ◌∙◌}
use mathlib.Core.List.{List, ◌++◌}
use Prim.Native.Nat.{ℕ, ◌+◌, ◌≤◌}
use native.Mathlib.Omega.{arith}
use native.Mathlib.Numerals.{add-one}
use lib.ListN.{length, take, drop, replicate, length-take, length-replicate, get_or-replicate, replicate-append-replicate}
use lib.Seq.{drop_at}
use Rattle.basics.specs.Tests.{list_below}
use Rattle.basics.proofs.Below.{list_below_of}
use Rattle.rules.specs.Board.{empty}
use Rattle.membership.proofs.Canonical.{absent_none, cells_none}
use Rattle.assignment_tables.specs.declared.Shape.{Shape}
use Rattle.assignment_tables.specs.Layout.{Marked, keys_length}
use Rattle.assignment_index.specs.declared.columns.Part.{Part}
use Rattle.assignment_index.specs.Columns.{column, records_length, members_length}
use Rattle.assignment_index.specs.Index.{records_of, part_of, by_capacity, by_value, by_sequence, members_of, roster_in, Indexed}
use Rattle.assignment_index.proofs.Records.{values_are, capacity-given_are, sequence-given_are}
use Rattle.assignment_index.proofs.Changes.{no_capacity, no_sequence}
use Rattle.assignment_refresh.specs.Refresh.{nobody, keyless}
use Rattle.assignment_refresh.proofs.Kept.{roster_records, roster_now, indexed_now}

abbrev pub zeros : ℕ → List ℕ
zeros n = replicate n 0

same-below : (n x : ℕ) → list_below n (λ (r : ℕ). x) ≡ replicate n x
same-below n x = sym (list_below_of n (λ (r : ℕ). x) 0 (replicate n x) (length-replicate n x) (λ i l. get_or-replicate n i x 0 l))

-- whatever the tables, since `empty` has no key
pub no_keys : (S : Shape) (m k : List ℕ) → S.values ≤ 64 → records_of S.rows keyless keyless nobody ≡ roster_records S m k nobody
unfolding records_of
no_keys S m k few = simp (no_capacity S m k few, no_sequence S m k few)

module _ (n : ℕ) where
  abbrev cleared : List ℕ
  cleared = records_of n keyless keyless nobody

  as_numbers : cleared ≡ replicate n empty ++ (zeros n ++ (zeros n ++ (zeros n ++ zeros n)))
  unfolding records_of
  as_numbers = let z = same-below n 0 in ap₂ ◌++◌ (same-below n empty) (ap₂ ◌++◌ z (ap₂ ◌++◌ z (ap₂ ◌++◌ z z)))

  fewer : (k : ℕ) → drop n (zeros (n + k)) ≡ zeros k
  fewer k = ap (drop n) (sym (replicate-append-replicate n k 0)) ∙ drop_at (zeros n) (zeros k) n (length-replicate n 0)

  four_left : drop n (zeros (records_length n)) ≡ zeros n ++ (zeros n ++ (zeros n ++ zeros n))
  four_left =
      let five : records_length n ≡ n + (n + (n + (n + n))) = omega arith in
      let four : zeros n ++ (zeros n ++ (zeros n ++ zeros n)) ≡ zeros (n + (n + (n + n))) = simp replicate-append-replicate in
      ap (λ (i : ℕ). drop n (zeros i)) five ∙ fewer (n + (n + (n + n))) ∙ sym four

  -- zeros, and then the column of values
  pub records-cleared : (R₀ R₁ values : List ℕ) → length R₀ ≡ records_length n → R₁ ≡ zeros (length R₀) → values ≡ replicate (length (take n R₁)) empty
      → values ++ drop n R₁ ≡ cleared
  records-cleared R₀ R₁ values long e f =
      let p : R₁ ≡ zeros (records_length n) = e ∙ ap zeros long in
      let k : length (take n R₁) ≡ n = simp length-take (omega (arith, ap length p ∙ length-replicate (records_length n) 0)) in
      let q : values ≡ replicate n empty = f ∙ ap (λ (i : ℕ). replicate i empty) k in
      rw (p, q) (ap (λ (x : List ℕ). replicate n empty ++ x) four_left ∙ sym as_numbers)

  -- a part of which nobody is a member
  part_none : (P : Part) → column n P.flags cleared ≡ replicate n P.absent → part_of n P cleared ≡ zeros (n + 1)
  part_none P e = rw e (absent_none P.absent n _ _ n ∙ cells_none n ∙ ap zeros (sym (add-one n)))

  all-zeros : zeros (members_length n) ≡ members_of n cleared
  unfolding members_of
  all-zeros =
      sym (ap₂ ◌++◌ (part_none by_capacity (capacity-given_are n keyless keyless nobody ∙ same-below n 0))
      (ap₂ ◌++◌ (part_none by_value (values_are n keyless keyless nobody ∙ same-below n empty)) (part_none by_sequence (sequence-given_are n keyless keyless nobody ∙ same-below n 0)))
      ∙ three)
    where
      three : zeros (n + 1) ++ (zeros (n + 1) ++ zeros (n + 1)) ≡ zeros (members_length n)
      three = let all : n + 1 + (n + 1 + (n + 1)) ≡ members_length n = omega arith in simp replicate-append-replicate (ap zeros all)

  pub members_cleared : (M₀ M₁ R : List ℕ) → length M₀ ≡ members_length n → M₁ ≡ zeros (length M₀) → R ≡ cleared → M₁ ≡ members_of n R
  members_cleared M₀ M₁ R long e f = e ∙ ap zeros long ∙ all-zeros ∙ ap (members_of n) (sym f)

-- cleared slices are an index, whatever the tables
module _ (S : Shape) (m k : List ℕ) (marked : Marked S m) (keys_long : length k ≡ keys_length S) (R M : List ℕ) (e : R ≡ records_of S.rows keyless keyless nobody)
    (f : M ≡ members_of S.rows R) where
  by_tables : R ≡ roster_records S m k nobody
  by_tables = e ∙ no_keys S m k marked.small.few_values

  pub cleared_indexed : Indexed S m k R M
  cleared_indexed = indexed_now S m k marked keys_long nobody (λ r l. refl) R M by_tables f

  pub cleared_roster : roster_in S.rows R ≡ nobody
  cleared_roster = roster_now S m k marked keys_long nobody (λ r l. refl) R M by_tables f
