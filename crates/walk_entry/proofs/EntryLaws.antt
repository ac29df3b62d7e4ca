-- What the walk answers as an entry, refusal by refusal. Assumes nothing.
use Prim.Native.Nat.{ℕ, ◌≤◌, min}
use mathlib.Core.Path.{◌≡◌, sym, ◌∙◌}
use mathlib.Core.Bool.{Bool, true, false, not}
use mathlib.Core.List.{List}
use lib.ListN.{length}
use lib.Dec.{leb}
use lib.IntN.{ℤ}
use borrow.Author.Tests.{leb-true, not-true, not-false}
use Rattle.std.specs.Prelude.{Ok, Err}
use Rattle.refusals.specs.declared.Refusal.TheVariants as refusal
use Rattle.refusals.specs.Refusals.{Checked}
use Rattle.refusals.specs.declared.Refusal.{Refusal}
use Rattle.refusals.specs.Answers.{then_unless}
use Rattle.refusals.proofs.AnswerLaws.{stays-refused, says_no, says_yes, refused-before, refused-room, not_refused}
use Rattle.assignment_tables.specs.declared.Shape.{Shape}
use Rattle.assignment_tables.specs.Tables.{board}
use Rattle.assignment_index.specs.Index.{roster_in, Indexed}
use Rattle.assignment_state.specs.Admission.{admission}
use Rattle.assignment_state.proofs.AdmitLaws.{ready}
use Rattle.window_kinds.specs.declared.CycleWindowCursor.{CycleWindowCursor}
use Rattle.window_kinds.specs.Kinds.{rematching, cursor_fits, Fitting}
use Rattle.window_kinds.proofs.CursorLaws.{fits_told}
use Rattle.assignment_cycle.specs.Windows.{rematch_step}
use Rattle.walk_answers.specs.declared.Walk.{Walk}
use Rattle.walk_answers.specs.Answers.{refused_walk}
use Rattle.assignment_walk.specs.Runs.{run, Left, leaves, resumed, roomy, walk_refusal, walking}

pub refusal_is : (r : Walk) (c : CycleWindowCursor) (a : Refusal) (O U N : List ℕ) (x : Left) → r ≡ refused_walk c a → leaves (refused_walk c a) O U N ≡ x → leaves r O U N ≡ x
refusal_is r c a O U N x e q = rw e q

module _ (S : Shape) (m k : List ℕ) (p : List ℤ) (R M order : List ℕ) (c : CycleWindowCursor) (O U N : List ℕ) where
  abbrev said : Refusal → Left
  said r = leaves (refused_walk c r) O U N

  abbrev answer : Left
  answer = resumed 0 0 (run (rematch_step (board S m k) (roster_in S.rows R) order) (length N) (min (length O) (length U)) c) O U N

  abbrev fits : Bool
  fits = cursor_fits rematching (length order) c

  abbrev room : Bool
  room = roomy S.rows O U N

  module _ (a : Checked) (e : a ≡ admission S m k p R M (leb (length order) 128)) where
    pub not_admitted : (r : Refusal) → a ≡ Err r → said r ≡ walking S m k p R M order c O U N
    unfolding walking walk_refusal
    not_admitted r z = rw (← e) (refused-before said answer (then_unless refusal.Cursor a fits) room r (stays-refused refusal.Cursor a fits r z))

    module _ (z : a ≡ Ok tt) (b : Bool) (f : b ≡ fits) where
      pub not_fitting : not b ≡ true → said refusal.Cursor ≡ walking S m k p R M order c O U N
      unfolding walking walk_refusal
      not_fitting t = rw (← e) (refused-before said answer (then_unless refusal.Cursor a fits) room refusal.Cursor (says_no refusal.Cursor a fits z (sym f ∙ not-true b t)))

      module _ (t : not b ≡ false) where
        fitting : fits ≡ true
        fitting = sym f ∙ not-false b t

        module _ (d : Bool) (g : d ≡ room) where
          pub too_short : not d ≡ true → said refusal.Room ≡ walking S m k p R M order c O U N
          unfolding walking walk_refusal
          too_short q = rw (← e) (refused-room said answer (then_unless refusal.Cursor a fits) room (says_yes refusal.Cursor a fits z fitting) (sym g ∙ not-true d q))

          pub asked : Indexed S m k R M × ((length order ≤ 128) × Fitting rematching (length order) c)
          asked =
              let r = ready S m k p R M (leb (length order) 128) (sym e ∙ z) in
              (r.0.index, (leb-true _ _ r.1, fits_told rematching (length order) c fitting))

          pub answered : not d ≡ false → (r : Walk) (O' U' N' : List ℕ) → leaves r O' U' N' ≡ answer → leaves r O' U' N' ≡ walking S m k p R M order c O U N
          unfolding walking walk_refusal
          answered q r O' U' N' w = w ∙ rw (← e) (not_refused said answer (then_unless refusal.Cursor a fits) room (says_yes refusal.Cursor a fits z fitting) (sym g ∙ not-false d q))
