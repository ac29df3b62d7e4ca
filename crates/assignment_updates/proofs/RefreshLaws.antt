-- What building and refreshing answer and leave, case by case. Assumes nothing.
use Prim.Native.Nat.{ℕ, zero, suc, ◌+◌, ◌-◌, ◌≤◌, ◌<◌}
use mathlib.Core.Path.{◌≡◌, refl, sym, ap, ◌∙◌}
use mathlib.Core.Bool.{Bool, true, false, not, ◌&&◌}
use Rattle.std.specs.Prelude.{Ok, Err}
use Rattle.std.specs.Result.{result_and}
use mathlib.Core.List.{List}
use native.Mathlib.Decide.{ℕ_discrete}
use native.Mathlib.Nat.{sub-zero}
use native.Mathlib.Numerals.{add-one}
use native.Mathlib.Omega.{arith}
use lib.ListN.{length, get_or}
use lib.Dec.{eqb, ltb}
use lib.IntN.{ℤ}
use borrow.Author.Tests.{lt-ltb, le-ltb, eqb-true, not-true, not-false}
use Rattle.basics.specs.Tests.{all, all_below, distinct}
use Rattle.basics.proofs.Loops.{left}
use Rattle.basics.specs.Edits.{edits, fresh}
use Rattle.basics.proofs.Bools.{and_left, and_right}
use Rattle.basics.proofs.Below.{all_below_of, all-below}
use Rattle.basics.proofs.Edits.{distinct-fresh}
use Rattle.refusals.specs.declared.Refusal.{Refusal}
use Rattle.refusals.specs.declared.Refusal.TheVariants as refusal
use Rattle.refusals.specs.Refusals.{Checked}
use Rattle.refusals.specs.Answers.{refused_unless}
use Rattle.rules.specs.Roster.{Roster, roster_of, after}
use Rattle.assignment_tables.specs.declared.Shape.{Shape}
use Rattle.assignment_tables.specs.Refusal.{tables_refusal, Admitted}
use Rattle.assignment_tables.proofs.RefusalLaws.{admitted_iff}
use Rattle.assignment_index.specs.Columns.{records_length, members_length}
use Rattle.assignment_index.specs.Index.{members_of, roster_in}
use Rattle.assignment_state.specs.Admission.{index_lengths, holdable, all_holdable, admission}
use Rattle.assignment_updates.specs.Refresh.{entry_refusal, first_refusal, list_refusal, refresh_refusal, records_by, Left, leaving, refreshed, build_refusal, built}
use Rattle.assignment_state.proofs.AdmitLaws.{lengths_told}
use Rattle.refusals.proofs.AnswerLaws.{all_checked}

-- one entry of a list
module _ (S : Shape) (rs vs : List ℕ) (i : ℕ) where
  pub out_of_range : S.rows ≤ get_or rs i 0 → Err refusal.RowOutOfRange ≡ entry_refusal S rs vs i
  unfolding entry_refusal
  out_of_range p = rw (le-ltb _ _ p)

  module _ (p : get_or rs i 0 < S.rows) (b : Bool) (e : b ≡ fresh rs i) where
    pub named-before : not b ≡ true → Err refusal.RowNamedTwice ≡ entry_refusal S rs vs i
    unfolding entry_refusal
    named-before t = rw (lt-ltb _ _ p, ← e, not-true b t)

    module _ (t : not b ≡ false) (d : Bool) (f : d ≡ holdable S (get_or vs i 0)) where
      pub entry-fits : d ≡ true → Ok tt ≡ entry_refusal S rs vs i
      unfolding entry_refusal
      entry-fits u = rw (lt-ltb _ _ p, ← e, not-false b t, ← f, u)

      pub not_holdable : d ≡ false → Err refusal.HeldValue ≡ entry_refusal S rs vs i
      unfolding entry_refusal
      not_holdable u = rw (lt-ltb _ _ p, ← e, not-false b t, ← f, u)

  pub entry-told : entry_refusal S rs vs i ≡ Ok tt → (ltb (get_or rs i 0) S.rows ≡ true) × (fresh rs i ≡ true) × (holdable S (get_or vs i 0) ≡ true)
  unfolding entry_refusal
  entry-told h = told (ltb (get_or rs i 0) S.rows) (fresh rs i) (holdable S (get_or vs i 0)) h
    where
      told : (a b c : Bool) → result_and (refused_unless refusal.RowOutOfRange a) (result_and (refused_unless refusal.RowNamedTwice b) (refused_unless refusal.HeldValue c)) ≡ Ok tt → (a ≡ true) × (b ≡ true) × (c ≡ true)
      told true true true h = (refl, refl, refl)
      told true true false h = cc
      told true false c h = cc
      told false b c h = cc

-- the loop over the entries: what it looks for is the first refusal from i on
module _ (f : ℕ → Checked) where
  pub refusal-here : (n i : ℕ) (a w : Checked) (r : Refusal) → i < n → w ≡ first_refusal f i (n - i) → a ≡ f i → a ≡ Err r → Err r ≡ w
  unfolding first_refusal
  refusal-here n i a w r l h e q = sym (h ∙ rw (left n i l, ← e, q))

  pub refusal_next : (n i : ℕ) (a w : Checked) → i < n → w ≡ first_refusal f i (n - i) → a ≡ f i → a ≡ Ok tt → w ≡ first_refusal f (i + 1) (n - (i + 1))
  unfolding first_refusal
  refusal_next n i a w l h e z = h ∙ rw (left n i l, ← e, z, add-one)

  pub refusal_none : (n i : ℕ) (w : Checked) → n ≤ i → w ≡ first_refusal f i (n - i) → Ok tt ≡ w
  unfolding first_refusal
  refusal_none n i w l h = sym (h ∙ (let e : n - i ≡ 0 = omega arith in rw e))

  pub no_refusal : (i n : ℕ) → first_refusal f i n ≡ Ok tt → (j : ℕ) → i ≤ j → j < i + n → f j ≡ Ok tt
  unfolding first_refusal
  no_refusal i zero h j a b = absurd (omega arith)
  no_refusal i (suc n) h j a b =
      let both = all_checked (f i) (first_refusal f (suc i) n) h in
      elim (ℕ_discrete i j) [
        | yes e ↦ rw (← e) both.0
        | no q ↦ no_refusal (suc i) n both.1 j (omega arith) (omega arith)
      ]

pub refusal_start : (S : Shape) (rs vs : List ℕ) → list_refusal S rs vs ≡ first_refusal (entry_refusal S rs vs) 0 (length rs - 0)
unfolding list_refusal
refusal_start S rs vs = rw sub-zero

-- a list that is not refused
module _ (S : Shape) (rs vs : List ℕ) (h : list_refusal S rs vs ≡ Ok tt) where
  each : (i : ℕ) → i < length rs → (ltb (get_or rs i 0) S.rows ≡ true) × (fresh rs i ≡ true) × (holdable S (get_or vs i 0) ≡ true)
  unfolding list_refusal
  each i l = entry-told S rs vs i (no_refusal (entry_refusal S rs vs) 0 (length rs) h i (omega arith) (omega arith))

  pub rows_in_range : all (λ (r : ℕ). ltb r S.rows) rs ≡ true
  rows_in_range = all-below (λ (r : ℕ). ltb r S.rows) 0 rs ∙ all_below_of _ (length rs) (λ i l. (each i l).0)

  pub values-holdable : all_below (length rs) (λ (i : ℕ). holdable S (get_or vs i 0)) ≡ true
  values-holdable = all_below_of _ (length rs) (λ i l. (each i l).2)

  pub rows_distinct : distinct rs ≡ true
  rows_distinct = distinct-fresh rs ∙ all_below_of _ (length rs) (λ i l. (each i l).1)

-- what is left
module _ (S : Shape) (m k : List ℕ) (h : Roster) (R M : List ℕ) where
  pub as_before : (a : Checked) (r : Refusal) → a ≡ Err r → leaving S m k h R M a ≡ record { answer = Err r; records = R; members = M }
  unfolding leaving
  as_before a r q = rw q

  pub indexed_anew : (a : Checked) → a ≡ Ok tt → leaving S m k h R M a ≡ record { answer = Ok tt; records = records_by S m k h; members = members_of S.rows (records_by S m k h) }
  unfolding leaving
  indexed_anew a q = rw q

-- what an outcome says of each of its parts
pub left-told : (x : Left) (a : Checked) (R M : List ℕ) → x ≡ record { answer = a; records = R; members = M } → (a ≡ x.answer) × ((R ≡ x.records) × (M ≡ x.members))
left-told x a R M e = rw e (refl, (refl, refl))

-- refresh
module _ (S : Shape) (m k : List ℕ) (p : List ℤ) (R M rs vs : List ℕ) (a : Checked) (e : a ≡ admission S m k p R M (eqb (length rs) (length vs))) where
  abbrev outcome : Left
  outcome = refreshed S m k p R M rs vs

  pub not_admitted : (r : Refusal) → a ≡ Err r → outcome ≡ record { answer = Err r; records = R; members = M }
  unfolding refreshed refresh_refusal
  not_admitted r q = as_before S m k _ R M _ r (rw (← e, q))

  module _ (z : a ≡ Ok tt) (b : Checked) (f : b ≡ list_refusal S rs vs) where
    pub bad_list : (r : Refusal) → b ≡ Err r → outcome ≡ record { answer = Err r; records = R; members = M }
    unfolding refreshed refresh_refusal
    bad_list r q = as_before S m k _ R M _ r (rw (← e, z, ← f, q))

    pub advanced : b ≡ Ok tt → outcome ≡ record { answer = Ok tt; records = records_by S m k (after (roster_in S.rows R) (edits rs vs)); members = members_of S.rows (records_by S m k (after (roster_in S.rows R) (edits rs vs))) }
    unfolding refreshed refresh_refusal
    advanced q = indexed_anew S m k _ R M _ (rw (← e, z, ← f, q))

-- build
module _ (S : Shape) (m k : List ℕ) (p : List ℤ) (vs R M : List ℕ) (l : Bool) (e : l ≡ index_lengths S R M) (t : Checked) (f : t ≡ tables_refusal S m k p (eqb (length vs) S.rows && l)) where
  abbrev result : Left
  result = built S m k p vs R M

  tables_are : tables_refusal S m k p (eqb (length vs) S.rows && index_lengths S R M) ≡ t
  tables_are = ap (λ (b : Bool). tables_refusal S m k p (eqb (length vs) S.rows && b)) (sym e) ∙ sym f

  pub not_built : (r : Refusal) → t ≡ Err r → result ≡ record { answer = Err r; records = R; members = M }
  unfolding built build_refusal
  not_built r q = as_before S m k _ R M _ r (rw (tables_are, q))

  module _ (z : t ≡ Ok tt) where
    told : Admitted S m k p × (eqb (length vs) S.rows && index_lengths S R M ≡ true)
    told = (admitted_iff S m k p (eqb (length vs) S.rows && index_lengths S R M)).0 (tables_are ∙ z)

    pub build_tables : Admitted S m k p
    build_tables = told.0

    pub roster_long : length vs ≡ S.rows
    roster_long = eqb-true _ _ (and_left (eqb (length vs) S.rows) _ told.1)

    pub slices_long : (length R ≡ records_length S.rows) × (length M ≡ members_length S.rows)
    slices_long = lengths_told S R M (and_right (eqb (length vs) S.rows) _ told.1)

    module _ (b : Bool) (g : b ≡ all_holdable S vs) where
      pub bad_roster : not b ≡ true → result ≡ record { answer = Err refusal.HeldValue; records = R; members = M }
      unfolding built build_refusal
      bad_roster h = as_before S m k _ R M _ refusal.HeldValue (rw (tables_are, z, ← g, not-true b h))

      pub written_anew : not b ≡ false → result ≡ record { answer = Ok tt; records = records_by S m k (roster_of vs); members = members_of S.rows (records_by S m k (roster_of vs)) }
      unfolding built build_refusal
      written_anew h = indexed_anew S m k _ R M _ (rw (tables_are, z, ← g, not-false b h))
