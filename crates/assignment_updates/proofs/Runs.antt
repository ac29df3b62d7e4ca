-- After any run of accepted refreshes the index is the one that building afresh would write. Assumes nothing.
use Prim.Native.Nat.{ℕ, ◌≤◌, ◌<◌}
use mathlib.Core.Path.{◌≡◌, refl, sym, ap, ◌∙◌}
use mathlib.Core.Logic.{⊎_elim}
use mathlib.Core.Bool.{true, false}
use Rattle.std.specs.Prelude.{Ok, Err}
use Rattle.refusals.specs.Refusals.{Checked}
use mathlib.Core.List.{List}
use native.Mathlib.Omega.{arith}
use lib.ListN.{length, get_or, get_or-eq_default}
use lib.Dec.{eqb, ltb}
use lib.IntN.{ℤ}
use borrow.Author.Tests.{eqb-true, ltb-true}
use Rattle.basics.specs.Tests.{among}
use Rattle.basics.specs.Edits.{Edit, rows_of, edits}
use Rattle.basics.proofs.Bools.{either}
use Rattle.basics.proofs.Lists.{all_at_lem, among_at}
use Rattle.basics.proofs.Below.{all_below_at}
use Rattle.basics.proofs.Maps.{get_d_any}
use Rattle.basics.proofs.Edits.{rows_edits, all-edits}
use Rattle.rules.specs.Board.{empty}
use Rattle.rules.specs.Roster.{Roster, after}
use Rattle.rules.proofs.Rosters.{untouched, spot}
use Rattle.assignment_tables.specs.declared.Shape.{Shape}
use Rattle.assignment_index.specs.Columns.{column, records_length, members_length}
use Rattle.assignment_index.specs.Index.{members_of, roster_in}
use Rattle.assignment_index.proofs.ColumnLaws.{get_d_column, column-length}
use Rattle.assignment_state.specs.Admission.{holdable, all_holdable, admission, Ready}
use Rattle.assignment_updates.specs.Refresh.{list_refusal, refresh_refusal, records_by, leaving, refreshed, built}
use Rattle.assignment_updates.specs.Runs.{Reached, begun, refreshed_by}
use Rattle.assignment_state.proofs.AdmitLaws.{ready}
use Rattle.refusals.proofs.AnswerLaws.{all_checked}
use Rattle.assignment_updates.proofs.RefreshLaws.{values-holdable, rows_in_range, indexed_anew}
use Rattle.assignment_updates.proofs.Afresh.{index_ready, built_afresh}

module _ (S : Shape) (m k : List ℕ) (p : List ℤ) (R M : List ℕ) (w : Ready S m k p R M) where
  abbrev h : Roster
  h = roster_in S.rows R

  values_long : length (column S.rows 0 R) ≡ S.rows
  values_long = column-length S.rows 0 R (omega (arith, w.records_long))

  past_rows : (r : ℕ) → S.rows ≤ r → h r ≡ empty
  past_rows r l = get_or-eq_default (column S.rows 0 R) empty (omega (arith, values_long))

  pub held-holdable : (r : ℕ) → r < S.rows → holdable S (h r) ≡ true
  unfolding all_holdable
  held-holdable r l =
      ap (holdable S) (get_d_any empty 0 (column S.rows 0 R) r (omega (arith, values_long)) ∙ get_d_column S.rows 0 R r l ∙ ap (λ (i : ℕ). get_or R i 0) (omega arith))
      ∙ all_below_at _ S.rows w.all_holdable r l

  module _ (rs vs : List ℕ) (e : length rs ≡ length vs) (z : list_refusal S rs vs ≡ Ok tt) where
    abbrev L : List Edit
    L = edits rs vs

    unlisted : (r : ℕ) → S.rows ≤ r → among r (rows_of L) ≡ false
    unlisted r l =
        either (among r (rows_of L))
        (λ t. let lt = all_at_lem (λ (x : ℕ). ltb x S.rows) (rows_in_range S rs vs z) (among_at r rs (ap (among r) (sym (rows_edits rs vs e)) ∙ t)) in absurd (omega (arith, ltb-true r S.rows lt)))
        (λ f. f)

    pub refresh_ready : Ready S m k p (records_by S m k (after h L)) (members_of S.rows (records_by S m k (after h L)))
    refresh_ready =
        index_ready S m k p w.tables (after h L) (λ r l. untouched h L (unlisted r l) ∙ past_rows r l)
        (λ r l. ⊎_elim
        (λ q. ap (holdable S) q ∙ held-holdable r l)
        (λ (f, u, q, v). ap (holdable S) v ∙ all_at_lem (λ (x : Edit). holdable S x.value) (all-edits _ rs vs e ∙ values-holdable S rs vs z) u)
        (spot h L r))

-- an accepted refresh was refused by nothing
module _ (S : Shape) (m k : List ℕ) (p : List ℤ) (R M rs vs : List ℕ) (q : (refreshed S m k p R M rs vs).answer ≡ Ok tt) where
  no_refusal : refresh_refusal S m k p R M rs vs ≡ Ok tt
  unfolding refreshed leaving
  no_refusal = answered (refresh_refusal S m k p R M rs vs) q
    where
      answered : (a : Checked) → (leaving S m k (after (roster_in S.rows R) (edits rs vs)) R M a).answer ≡ Ok tt → a ≡ Ok tt
      answered (Ok x) h = refl
      answered (Err r) h = h

  parts : (admission S m k p R M (eqb (length rs) (length vs)) ≡ Ok tt) × (list_refusal S rs vs ≡ Ok tt)
  unfolding refresh_refusal
  parts = all_checked (admission S m k p R M (eqb (length rs) (length vs))) (list_refusal S rs vs) no_refusal

  pub step_ready : Ready S m k p (refreshed S m k p R M rs vs).records (refreshed S m k p R M rs vs).members
  unfolding refreshed
  step_ready =
      let a = ready S m k p R M (eqb (length rs) (length vs)) parts.0 in
      rw (indexed_anew S m k (after (roster_in S.rows R) (edits rs vs)) R M (refresh_refusal S m k p R M rs vs) no_refusal)
      (refresh_ready S m k p R M a.0 rs vs (eqb-true _ _ a.1) parts.1)

pub run_ready : (S : Shape) (m k : List ℕ) (p : List ℤ) {R M : List ℕ} → Reached S m k p R M → Ready S m k p R M
run_ready S m k p (begun w) = w
run_ready S m k p (refreshed_by {R} {M} rs vs t q) = step_ready S m k p R M rs vs q

-- 2.7
pub run_afresh : (S : Shape) (m k : List ℕ) (p : List ℤ) {R M : List ℕ} → Reached S m k p R M
    → (R' M' : List ℕ) → length R' ≡ records_length S.rows → length M' ≡ members_length S.rows
    → built S m k p (column S.rows 0 R) R' M' ≡ record { answer = Ok tt; records = R; members = M }
run_afresh S m k p {R} {M} t = built_afresh S m k p R M (run_ready S m k p t)
