-- What may be concluded of a list that is tested and applied as one act, of every board and every index. Assumes nothing.
use Prim.Native.Nat.{ℕ}
use mathlib.Core.Path.{◌≡◌, sym, ap, ◌∙◌}
use mathlib.Core.Logic.{◌↔◌}
use mathlib.Core.Bool.{true}
use mathlib.Core.List.{List}
use lib.ListN.{length}
use lib.Dec.{eqb}
use lib.IntN.{ℤ}
use Rattle.std.specs.Prelude.{Ok}
use Rattle.refusals.proofs.AnswerLaws as answers
use Rattle.basics.specs.Edits.{edits}
use Rattle.basics.specs.Sorting.{Reordered}
use Rattle.rules.specs.Roster.{after}
use Rattle.rules.specs.FinalTest.{passes}
use Rattle.soundness.specs.Demand3.{Returnable}
use Rattle.soundness.proofs.Demand3.{demand3}
use Rattle.assignment_tables.specs.declared.Shape.{Shape}
use Rattle.assignment_tables.specs.Tables.{board}
use Rattle.assignment_index.specs.Index.{roster_in}
use Rattle.assignment_state.specs.Admission.{admission}
use Rattle.assignment_updates.specs.Refresh.{Left, refreshed}
use Rattle.assignment_overlay.specs.Verdicts.{final_verdict}
use Rattle.sound_rosters.specs.SoundVerdict.{sound_verdict}
use Rattle.passed_lists.specs.Passed.{old_values, joined_rows, joined_values, Feasible}
use Rattle.passed_lists.proofs.Passed.{passed, left, sound_then}
use Rattle.applied_lists.specs.Applying.{Applied, leaves, acting, applying}
use Rattle.applied_lists.specs.OneAct.{Applies, apply_then, OneAct}
use Rattle.applied_lists.proofs.ApplyLaws.{answer-is, unless_yes, acts_alike}

module _ (S : Shape) (m k : List ℕ) (p : List ℤ) where
  -- what a refresh left, with a yes
  abbrev yes : Left → Applied
  yes x = leaves (Ok true) x.records x.members

  module _ (R M rs vs : List ℕ) where
    pub same_verdict : (applying S m k p R M rs vs).answer ≡ final_verdict S m k p R M rs vs
    unfolding applying
    same_verdict = answer-is S m k (after (roster_in S.rows R) (edits rs vs)) R M (final_verdict S m k p R M rs vs)

    passing : Applies S m k p R M rs vs → Feasible S m k p R M rs vs
    passing y = sym same_verdict ∙ y

    pub refreshed-then : Feasible S m k p R M rs vs → applying S m k p R M rs vs ≡ yes (refreshed S m k p R M rs vs)
    unfolding applying acting
    refreshed-then y = ap (acting S m k (after (roster_in S.rows R) (edits rs vs)) R M) y ∙ ap yes (sym (left S m k p R M rs vs y))

    pub as_it_was : (Feasible S m k p R M rs vs → ⊥) → ((applying S m k p R M rs vs).records ≡ R) × ((applying S m k p R M rs vs).members ≡ M)
    unfolding applying
    as_it_was n = unless_yes S m k (after (roster_in S.rows R) (edits rs vs)) R M (final_verdict S m k p R M rs vs) n

    yes_iff : Applies S m k p R M rs vs
        ↔ ((admission S m k p R M (eqb (length rs) (length vs)) ≡ Ok tt) × (passes (board S m k) (roster_in S.rows R) (edits rs vs) ≡ true))
    unfolding final_verdict
    yes_iff = let means = answers.yes_iff _ _ in (λ y. means.0 (passing y), λ t. same_verdict ∙ means.1 t)

    as_refreshed : Applies S m k p R M rs vs
        → refreshed S m k p R M rs vs ≡ record { answer = Ok tt; records = (applying S m k p R M rs vs).records; members = (applying S m k p R M rs vs).members }
    as_refreshed y =
        left S m k p R M rs vs (passing y)
        ∙ ap (λ (x : Applied). record { answer = Ok tt; records = x.records; members = x.members })
        (ap yes (sym (left S m k p R M rs vs (passing y))) ∙ sym (refreshed-then (passing y)))

  -- a second list, after the first
  module _ (R M rs vs : List ℕ) (y : Feasible S m k p R M rs vs) (us ws : List ℕ) where
    both : apply_then S m k p (applying S m k p R M rs vs) us ws ≡ applying S m k p (refreshed S m k p R M rs vs).records (refreshed S m k p R M rs vs).members us ws
    both = ap (λ (x : Applied). apply_then S m k p x us ws) (refreshed-then R M rs vs y)

module _ (S : Shape) (m k : List ℕ) (p : List ℤ) (R M : List ℕ) where
  order : (rs vs us ws : List ℕ) → length rs ≡ length vs → length us ≡ length ws → Reordered (edits rs vs) (edits us ws)
      → applying S m k p R M rs vs ≡ applying S m k p R M us ws
  unfolding applying
  order rs vs us ws a b o =
      let h = roster_in S.rows R in
      let (same, _) = (passed S m k p R M).order rs vs us ws a b o in
      let (_, same_roster) = (demand3 (board S m k) h).order (edits rs vs) (edits us ws) o in
      acts_alike S m k (after h (edits rs vs)) R M (after h (edits us ws)) (final_verdict S m k p R M rs vs)
      (λ y. same_roster ((yes_iff S m k p R M rs vs).0 (same_verdict S m k p R M rs vs ∙ y)).1)
      ∙ ap (acting S m k (after h (edits us ws)) R M) same

  joins : (rs vs us ws : List ℕ) → Applies S m k p R M rs vs → (apply_then S m k p (applying S m k p R M rs vs) us ws).answer ≡ Ok true
      → applying S m k p R M (joined_rows rs vs us ws) (joined_values rs vs us ws) ≡ apply_then S m k p (applying S m k p R M rs vs) us ws
  joins rs vs us ws y z =
      let first = passing S m k p R M rs vs y in
      let then = both S m k p R M rs vs first us ws in
      let second = passing S m k p _ _ us ws (sym (ap (λ (x : Applied). x.answer) then) ∙ z) in
      let (joined, leaving) = (passed S m k p R M).joins rs vs us ws first second in
      refreshed-then S m k p R M (joined_rows rs vs us ws) (joined_values rs vs us ws) joined
      ∙ ap (yes S m k p) leaving
      ∙ sym (then ∙ refreshed-then S m k p _ _ us ws second)

  undoes : (rs vs : List ℕ) → sound_verdict S m k p R M ≡ Ok true → Applies S m k p R M rs vs
      → Returnable (board S m k) (roster_in S.rows R) (edits rs vs)
      → apply_then S m k p (applying S m k p R M rs vs) rs (old_values S R rs) ≡ leaves (Ok true) R M
  undoes rs vs s y w =
      let first = passing S m k p R M rs vs y in
      let (back, restoring) = (passed S m k p R M).undoes rs vs s first w in
      both S m k p R M rs vs first rs (old_values S R rs)
      ∙ refreshed-then S m k p _ _ rs (old_values S R rs) back
      ∙ ap (yes S m k p) restoring

  keeps_sound : (rs vs : List ℕ) → sound_verdict S m k p R M ≡ Ok true → Applies S m k p R M rs vs
      → sound_verdict S m k p (applying S m k p R M rs vs).records (applying S m k p R M rs vs).members ≡ Ok true
  keeps_sound rs vs s y =
      let first = passing S m k p R M rs vs y in
      ap (λ (x : Applied). sound_verdict S m k p x.records x.members) (refreshed-then S m k p R M rs vs first)
      ∙ sound_then S m k p R M rs vs first s

  pub one_act : OneAct S m k p R M
  unfolding applying acting
  one_act = record {
    same_verdict = same_verdict S m k p R M;
    yes_iff = yes_iff S m k p R M;
    index_after = λ rs vs y.
        let e = ap (acting S m k (after (roster_in S.rows R) (edits rs vs)) R M) (passing S m k p R M rs vs y) in
        (ap (λ (x : Applied). x.records) e, ap (λ (x : Applied). x.members) e);
    as_it_was = λ rs vs n. as_it_was S m k p R M rs vs (λ y. n (same_verdict S m k p R M rs vs ∙ y));
    as_refreshed = as_refreshed S m k p R M;
    keeps_sound = keeps_sound;
    order = order;
    joins = joins;
    undoes = undoes;
  }
