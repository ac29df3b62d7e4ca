-- What admission says, case by case, and what holds of slices that are admitted. Assumes nothing.
use Prim.Native.Nat.{ℕ, ◌≤◌, ◌<◌}
use mathlib.Core.Path.{◌≡◌, refl, sym, ap, ◌∙◌}
use mathlib.Core.Bool.{Bool, true, false, not, ◌&&◌}
use Rattle.std.specs.Prelude.{Ok, Err}
use Rattle.std.specs.Result.{result_and}
use mathlib.Core.List.{List}
use lib.ListN.{length}
use lib.Dec.{eqb, ltb, leb}
use lib.IntN.{ℤ}
use borrow.Author.Tests.{le-leb, lt-leb, eq-eqb, ne_eqb, eqb-true, not-true, not-false}
use Rattle.basics.specs.Tests.{same_numbers}
use Rattle.basics.proofs.Bools.{and_left, and_right}
use Rattle.basics.proofs.Lists.{same_numbers_iff}
use Rattle.refusals.specs.declared.Refusal.{Refusal}
use Rattle.refusals.specs.declared.Refusal.TheVariants as refusal
use Rattle.refusals.specs.Refusals.{Checked}
use Rattle.refusals.specs.Answers.{refused_unless}
use Rattle.rules.specs.Board.{empty}
use Rattle.assignment_tables.specs.declared.Shape.{Shape}
use Rattle.assignment_tables.specs.Tables.{capacity_at, sequence_at}
use Rattle.assignment_tables.specs.Refusal.{tables_refusal, Admitted}
use Rattle.assignment_tables.proofs.RefusalLaws.{admitted_iff}
use Rattle.assignment_index.specs.Columns.{records_length, members_length}
use Rattle.assignment_index.specs.Index.{records_of, roster_in, is_index, Indexed}
use Rattle.assignment_state.specs.Admission.{index_lengths, holdable, all_holdable, admission, Ready}

-- the index's lengths
module _ (S : Shape) (R M : List ℕ) where
  pub too_many_rows : 128 < S.rows → false ≡ index_lengths S R M
  unfolding index_lengths
  too_many_rows h = rw (lt-leb _ _ h)

  pub few_enough : S.rows ≤ 128 → eqb (length R) (records_length S.rows) && eqb (length M) (members_length S.rows) ≡ index_lengths S R M
  unfolding index_lengths
  few_enough h = rw (le-leb _ _ h)

  pub lengths_told : index_lengths S R M ≡ true → (length R ≡ records_length S.rows) × (length M ≡ members_length S.rows)
  unfolding index_lengths
  lengths_told h =
      let both = and_right (leb S.rows 128) _ h in
      (eqb-true _ _ (and_left (eqb (length R) (records_length S.rows)) _ both), eqb-true _ _ (and_right (eqb (length R) (records_length S.rows)) _ both))

-- a value that may be held
module _ (S : Shape) (v : ℕ) where
  pub holds-nothing : v ≡ empty → true ≡ holdable S v
  unfolding holdable
  holds-nothing e = rw (eq-eqb _ _ e)

  pub holds_something : (v ≡ empty → ⊥) → ltb v S.values ≡ holdable S v
  unfolding holdable
  holds_something n = rw (ne_eqb _ _ n)

-- where the tables are not refused
module _ (S : Shape) (m k : List ℕ) (p : List ℤ) (R M : List ℕ) (own l : Bool) (e : l ≡ index_lengths S R M) (t : Checked) (f : t ≡ tables_refusal S m k p (own && l)) where
  tables_are : tables_refusal S m k p (own && index_lengths S R M) ≡ t
  tables_are = ap (λ (b : Bool). tables_refusal S m k p (own && b)) (sym e) ∙ sym f

  pub refused_tables : (r : Refusal) → t ≡ Err r → Err r ≡ admission S m k p R M own
  unfolding admission
  refused_tables r n = rw (tables_are, n)

  module _ (z : t ≡ Ok tt) where
    told : Admitted S m k p × (own && index_lengths S R M ≡ true)
    told = (admitted_iff S m k p (own && index_lengths S R M)).0 (tables_are ∙ z)

    pub tables_admitted : Admitted S m k p
    tables_admitted = told.0

    pub index_long : (length R ≡ records_length S.rows) × (length M ≡ members_length S.rows)
    index_long = lengths_told S R M (and_right own _ told.1)

    module _ (b : Bool) (g : b ≡ all_holdable S R) where
      pub not_holdable : not b ≡ true → Err refusal.HeldValue ≡ admission S m k p R M own
      unfolding admission
      not_holdable h = rw (tables_are, z, ← g, not-true b h)

      module _ (h : not b ≡ false) (d : Bool) (i : d ≡ is_index S m k R M) where
        pub is_admitted : d ≡ true → Ok tt ≡ admission S m k p R M own
        unfolding admission
        is_admitted j = rw (tables_are, z, ← g, not-false b h, ← i, j)

        pub false_index : d ≡ false → Err refusal.FalseIndex ≡ admission S m k p R M own
        unfolding admission
        false_index j = rw (tables_are, z, ← g, not-false b h, ← i, j)

-- what it gives where nothing is refused
module _ (S : Shape) (m k : List ℕ) (p : List ℤ) (R M : List ℕ) where
  pub indexed : Admitted S m k p → is_index S m k R M ≡ true → Indexed S m k R M
  unfolding is_index
  indexed a h = record {
    marked = a.marked;
    keys_long = a.keys_long;
    records_right = (same_numbers_iff _ _).0 (and_left (same_numbers R (records_of S.rows (capacity_at S m k) (sequence_at S m k) (roster_in S.rows R))) _ h);
    members_right = (same_numbers_iff _ _).0 (and_right (same_numbers R (records_of S.rows (capacity_at S m k) (sequence_at S m k) (roster_in S.rows R))) _ h);
  }

  all_pass : (t : Checked) (a b : Bool) → result_and t (result_and (refused_unless refusal.HeldValue a) (refused_unless refusal.FalseIndex b)) ≡ Ok tt → (t ≡ Ok tt) × (a ≡ true) × (b ≡ true)
  all_pass (Ok tt) true true h = (refl, refl, refl)
  all_pass (Ok tt) true false h = cc
  all_pass (Ok tt) false b h = cc
  all_pass (Err r) a b h = cc

  pub ready : (own : Bool) → admission S m k p R M own ≡ Ok tt → Ready S m k p R M × (own ≡ true)
  unfolding admission
  ready own h =
      let z = all_pass (tables_refusal S m k p (own && index_lengths S R M)) (all_holdable S R) (is_index S m k R M) h in
      let a = (admitted_iff S m k p (own && index_lengths S R M)).0 z.0 in
      let l = lengths_told S R M (and_right own _ a.1) in (
        record { tables = a.0; records_long = l.0; members_long = l.1; all_holdable = z.1; index = indexed a.0 z.2 },
        and_left own _ a.1,
      )
