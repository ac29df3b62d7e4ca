-- What a step answers as an entry, refusal by refusal, for a cursor of either kind. Assumes nothing.
use Prim.Native.Nat.{ℕ, ◌≤◌, ◌<◌}
use mathlib.Core.Path.{◌≡◌, sym, ◌∙◌}
use mathlib.Core.Bool.{Bool, true, false, not, ◌&&◌}
use mathlib.Core.List.{List}
use Rattle.std.specs.Prelude.{Option, Ok, Err}
use lib.ListN.{length}
use lib.Dec.{leb}
use lib.IntN.{ℤ}
use borrow.Author.Tests.{le-leb, lt-leb, leb-true, not-true, not-false}
use Rattle.refusals.specs.Answers.{then_unless}
use Rattle.refusals.specs.Refusals.{Checked}
use Rattle.refusals.specs.declared.Refusal.{Refusal}
use Rattle.basics.specs.Edits.{Edit}
use Rattle.basics.proofs.Bools.{and_false, and_join}
use Rattle.refusals.specs.declared.Refusal.TheVariants as refusal
use Rattle.outputs.specs.Giving.{Roomy}
use Rattle.refusals.proofs.AnswerLaws.{stays-refused, says_no, says_yes, refused-before, refused-room, not_refused}
use Rattle.assignment_tables.specs.declared.Shape.{Shape}
use Rattle.assignment_state.specs.Admission.{admission, Ready}
use Rattle.assignment_state.proofs.AdmitLaws.{ready}
use Rattle.window_kinds.specs.declared.CycleWindowCursor.{CycleWindowCursor}
use Rattle.window_kinds.specs.declared.Step.{Step}
use Rattle.window_kinds.specs.Kinds.{Kind, step_by, cursor_fits, Fitting}
use Rattle.window_kinds.specs.Stepping.{Stepping, leaves, answering, refused_step}
use Rattle.window_kinds.proofs.CursorLaws.{fits_told}
use Rattle.assignment_cycle.specs.Stepping.{step_refusal, stepping_by}

pub refusal_is : (r : Step) (c : CycleWindowCursor) (a : Refusal) (O U : List ℕ) (x : Stepping) → r ≡ refused_step c a → leaves (refused_step c a) O U ≡ x → leaves r O U ≡ x
refusal_is r c a O U x e q = rw e q

module _ (K : Kind) (move : CycleWindowCursor → Option (List Edit)) (S : Shape) (m k : List ℕ) (p : List ℤ) (R M order : List ℕ) (c : CycleWindowCursor) (O U : List ℕ) where
  abbrev said : Refusal → Stepping
  said n = leaves (refused_step c n) O U

  abbrev answer : Stepping
  answer = answering (step_by K move (length order) c) O U

  abbrev fits : Bool
  fits = cursor_fits K (length order) c

  abbrev room : Bool
  room = leb S.rows (length O) && leb S.rows (length U)

  module _ (a : Checked) (e : a ≡ admission S m k p R M (leb (length order) 128)) where
    pub not_admitted : (r : Refusal) → a ≡ Err r → said r ≡ stepping_by K move S m k p R M order c O U
    unfolding stepping_by step_refusal
    not_admitted r z = rw (← e) (refused-before said answer (then_unless refusal.Cursor a fits) room r (stays-refused refusal.Cursor a fits r z))

    module _ (z : a ≡ Ok tt) (b : Bool) (f : b ≡ fits) where
      pub not_fitting : not b ≡ true → said refusal.Cursor ≡ stepping_by K move S m k p R M order c O U
      unfolding stepping_by step_refusal
      not_fitting t = rw (← e) (refused-before said answer (then_unless refusal.Cursor a fits) room refusal.Cursor (says_no refusal.Cursor a fits z (sym f ∙ not-true b t)))

      module _ (t : not b ≡ false) where
        fitting : fits ≡ true
        fitting = sym f ∙ not-false b t

        too_short : room ≡ false → said refusal.Room ≡ stepping_by K move S m k p R M order c O U
        unfolding stepping_by step_refusal
        too_short g = rw (← e) (refused-room said answer (then_unless refusal.Cursor a fits) room (says_yes refusal.Cursor a fits z fitting) g)

        pub short_rows : length O < S.rows → said refusal.Room ≡ stepping_by K move S m k p R M order c O U
        short_rows h = too_short (rw (lt-leb _ _ h))

        pub short_values : length U < S.rows → said refusal.Room ≡ stepping_by K move S m k p R M order c O U
        short_values h = too_short (rw (lt-leb _ _ h) (and_false (leb S.rows (length O))))

        module _ (h : S.rows ≤ length O) (l : S.rows ≤ length U) where
          pub asked : Ready S m k p R M × (((length order ≤ 128) × Fitting K (length order) c) × Roomy S.rows O U)
          asked =
              let r = ready S m k p R M (leb (length order) 128) (sym e ∙ z) in
              (r.0, ((leb-true _ _ r.1, fits_told K (length order) c fitting), record { rows = h; values = l }))

          pub answered : (r : Step) (O' U' : List ℕ) → leaves r O' U' ≡ answer → leaves r O' U' ≡ stepping_by K move S m k p R M order c O U
          unfolding stepping_by step_refusal
          answered r O' U' q = q ∙ rw (← e) (not_refused said answer (then_unless refusal.Cursor a fits) room (says_yes refusal.Cursor a fits z fitting) (and_join (le-leb _ _ h) (le-leb _ _ l)))
