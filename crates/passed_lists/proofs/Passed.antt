-- What may be concluded of lists that pass, of every board and every index. Assumes nothing.
use Prim.Native.Nat.{ℕ}
use mathlib.Core.Path.{◌≡◌, refl, sym, ap, ◌∙◌}
use mathlib.Core.Bool.{true}
use mathlib.Core.List.{List}
use lib.ListN.{length, length-map}
use lib.Dec.{eqb}
use lib.IntN.{ℤ}
use borrow.Author.Tests.{eqb-true, eq-eqb}
use Rattle.std.specs.Prelude.{Ok}
use Rattle.refusals.proofs.AnswerLaws.{yes_iff}
use Rattle.basics.specs.Edits.{Edit, rows_of, values_of, edits}
use Rattle.basics.specs.Sorting.{Reordered}
use Rattle.basics.proofs.Edits.{length_rows, length-values, edits-back}
use Rattle.rules.specs.Board.{Board}
use Rattle.rules.specs.Roster.{Roster, after}
use Rattle.rules.specs.FinalTest.{passes}
use Rattle.soundness.specs.Demand3.{join, undo, Returnable}
use Rattle.soundness.proofs.Demand3.{demand3}
use Rattle.assignment_tables.specs.declared.Shape.{Shape}
use Rattle.assignment_tables.specs.Tables.{board}
use Rattle.assignment_index.specs.Index.{members_of, roster_in}
use Rattle.assignment_refresh.proofs.Refreshed.{roster_refreshed}
use Rattle.assignment_state.specs.Admission.{admission, Ready}
use Rattle.assignment_state.proofs.AdmitLaws.{ready}
use Rattle.assignment_updates.specs.Refresh.{Left, records_by}
use Rattle.assignment_updates.proofs.RefreshLaws.{advanced}
use Rattle.assignment_updates.proofs.Runs.{step_ready}
use Rattle.assignment_overlay.specs.Verdicts.{final_verdict}
use Rattle.sound_rosters.specs.SoundVerdict.{sound_verdict}
use Rattle.assignment_overlay.proofs.Meaning.{feasible_iff}
use Rattle.sound_rosters.proofs.Meaning.{roster_sound_iff}
use Rattle.passed_lists.specs.Passed.{old_values, joined_rows, joined_values, Feasible, FeasibleThen, refresh, refresh_then, Passed}
use Rattle.passed_lists.proofs.Laws.{passing-listed, passing-taken, ready_admitted, undo-edits}

module _ (S : Shape) (m k : List ℕ) (p : List ℤ) where
  abbrev B : Board
  B = board S m k

  -- the index of a roster, as an accepted refresh leaves it
  abbrev index_of : Roster → Left
  index_of g = record { answer = Ok tt; records = records_by S m k g; members = members_of S.rows (records_by S m k g) }

  module _ (R M rs vs : List ℕ) where
    abbrev h : Roster
    h = roster_in S.rows R

    abbrev L : List Edit
    L = edits rs vs

    says_yes : Ready S m k p R M → length rs ≡ length vs → passes B h L ≡ true → Feasible S m k p R M rs vs
    unfolding final_verdict
    says_yes w e t = (yes_iff _ _).1 (ap (admission S m k p R M) (eq-eqb _ _ e) ∙ ready_admitted S m k p R M w, t)

    module _ (y : Feasible S m k p R M rs vs) where
      both : (admission S m k p R M (eqb (length rs) (length vs)) ≡ Ok tt) × (passes B h L ≡ true)
      unfolding final_verdict
      both = (yes_iff _ _).0 y

      is_ready : Ready S m k p R M
      is_ready = (ready S m k p R M (eqb (length rs) (length vs)) both.0).0

      same_length : length rs ≡ length vs
      same_length = eqb-true _ _ (ready S m k p R M (eqb (length rs) (length vs)) both.0).1

      -- it is taken, and leaves the index of the roster after it
      pub left : refresh S m k p R M rs vs ≡ index_of (after h L)
      left = advanced S m k p R M rs vs _ refl both.0 _ refl (passing-taken S m k h rs vs same_length both.1)

      then_ready : Ready S m k p (refresh S m k p R M rs vs).records (refresh S m k p R M rs vs).members
      then_ready = step_ready S m k p R M rs vs (ap (λ (x : Left). x.answer) left)

      roster_then : roster_in S.rows (refresh S m k p R M rs vs).records ≡ after h L
      roster_then =
          ap (λ (x : Left). roster_in S.rows x.records) left
          ∙ roster_refreshed S m k R M is_ready.index rs vs (passing-listed B h rs vs same_length both.1) _ _ refl refl

      -- and a sound roster stays sound
      pub sound_then : sound_verdict S m k p R M ≡ Ok true
          → sound_verdict S m k p (refresh S m k p R M rs vs).records (refresh S m k p R M rs vs).members ≡ Ok true
      sound_then s =
          let sound = ((roster_sound_iff S m k p R M).0 s).1 in
          (roster_sound_iff S m k p _ _).1 (ready_admitted S m k p _ _ then_ready, rw roster_then ((feasible_iff S m k p R M rs vs sound).0 y).1.1)

  -- a list that is applied to what a refresh left
  module _ (R M rs vs : List ℕ) (y : Feasible S m k p R M rs vs) (us ws : List ℕ) where
    pub then_says_yes : length us ≡ length ws → passes B (after (h R M rs vs) (L R M rs vs)) (edits us ws) ≡ true → FeasibleThen S m k p (refresh S m k p R M rs vs) us ws
    then_says_yes e t =
        says_yes _ _ us ws (then_ready R M rs vs y) e (ap (λ (g : Roster). passes B g (edits us ws)) (roster_then R M rs vs y) ∙ t)

    pub then-passes : FeasibleThen S m k p (refresh S m k p R M rs vs) us ws → passes B (after (h R M rs vs) (L R M rs vs)) (edits us ws) ≡ true
    then-passes z = ap (λ (g : Roster). passes B g (edits us ws)) (sym (roster_then R M rs vs y)) ∙ (both _ _ us ws z).1

    pub then-left : FeasibleThen S m k p (refresh S m k p R M rs vs) us ws
        → refresh_then S m k p (refresh S m k p R M rs vs) us ws ≡ index_of (after (after (h R M rs vs) (L R M rs vs)) (edits us ws))
    then-left z = left _ _ us ws z ∙ ap (λ (g : Roster). index_of (after g (edits us ws))) (roster_then R M rs vs y)

module _ (S : Shape) (m k : List ℕ) (p : List ℤ) (R M : List ℕ) where
  order : (rs vs us ws : List ℕ) → length rs ≡ length vs → length us ≡ length ws → Reordered (edits rs vs) (edits us ws)
      → (final_verdict S m k p R M rs vs ≡ final_verdict S m k p R M us ws)
      × (Feasible S m k p R M rs vs → refresh S m k p R M rs vs ≡ refresh S m k p R M us ws)
  unfolding final_verdict
  order rs vs us ws a b o =
      let (same_test, same_roster) = (demand3 (board S m k) (roster_in S.rows R)).order (edits rs vs) (edits us ws) o in
      let same : final_verdict S m k p R M rs vs ≡ final_verdict S m k p R M us ws = rw (eq-eqb _ _ a, eq-eqb _ _ b, same_test) in (
        same,
        λ y. left S m k p R M rs vs y ∙ ap (index_of S m k p) (same_roster (both S m k p R M rs vs y).1) ∙ sym (left S m k p R M us ws (sym same ∙ y)),
      )

  joins : (rs vs us ws : List ℕ) → Feasible S m k p R M rs vs → FeasibleThen S m k p (refresh S m k p R M rs vs) us ws
      → Feasible S m k p R M (joined_rows rs vs us ws) (joined_values rs vs us ws)
      × (refresh S m k p R M (joined_rows rs vs us ws) (joined_values rs vs us ws) ≡ refresh_then S m k p (refresh S m k p R M rs vs) us ws)
  joins rs vs us ws y z =
      let J = join (edits rs vs) (edits us ws) in
      let (passing, leaving) = (demand3 (board S m k) (roster_in S.rows R)).joins (edits rs vs) (edits us ws) in
      let back : edits (rows_of J) (values_of J) ≡ J = edits-back J in
      let joined : Feasible S m k p R M (rows_of J) (values_of J) =
      says_yes S m k p R M (rows_of J) (values_of J) (is_ready S m k p R M rs vs y) (length_rows J ∙ sym (length-values J))
      (ap (passes (board S m k) (roster_in S.rows R)) back ∙ passing (both S m k p R M rs vs y).1 (then-passes S m k p R M rs vs y us ws z)) in (
        joined,
        left S m k p R M (rows_of J) (values_of J) joined
            ∙ ap (index_of S m k p) (ap (after (roster_in S.rows R)) back ∙ leaving)
            ∙ sym (then-left S m k p R M rs vs y us ws z),
      )

  undoes : (rs vs : List ℕ) → sound_verdict S m k p R M ≡ Ok true → Feasible S m k p R M rs vs
      → Returnable (board S m k) (roster_in S.rows R) (edits rs vs)
      → FeasibleThen S m k p (refresh S m k p R M rs vs) rs (old_values S R rs)
      × (refresh_then S m k p (refresh S m k p R M rs vs) rs (old_values S R rs) ≡ record { answer = Ok tt; records = R; members = M })
  undoes rs vs s y w =
      let h = roster_in S.rows R in
      let L = edits rs vs in
      let (passing, restoring) = (demand3 (board S m k) h).undoes L in
      let old : undo h L ≡ edits rs (old_values S R rs) = undo-edits h rs vs (same_length S m k p R M rs vs y) in
      let index = (is_ready S m k p R M rs vs y).index in
      let back : FeasibleThen S m k p (refresh S m k p R M rs vs) rs (old_values S R rs) =
      then_says_yes S m k p R M rs vs y rs (old_values S R rs) (sym (length-map rs h))
      (ap (passes (board S m k) (after h L)) (sym old) ∙ passing ((roster_sound_iff S m k p R M).0 s).1 (both S m k p R M rs vs y).1 w) in (
        back,
        then-left S m k p R M rs vs y rs (old_values S R rs) back
            ∙ ap (index_of S m k p) (ap (after (after h L)) (sym old) ∙ restoring)
            ∙ (λ i. record {
              answer = Ok tt;
              records = sym index.records_right i;
              members = (ap (members_of S.rows) (sym index.records_right) ∙ sym index.members_right) i;
            }),
      )

  pub passed : Passed S m k p R M
  passed = record {
    taken = λ rs vs y. ap (λ (x : Left). x.answer) (left S m k p R M rs vs y);
    order = order;
    joins = joins;
    undoes = undoes;
  }
