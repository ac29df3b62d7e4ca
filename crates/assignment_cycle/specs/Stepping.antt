-- What a step answers as an entry and leaves in its outputs, for every input. docs/RULES.md, 8.5, 9.5, 11.1, 11.8, 11.9, 11.11 and 11.13.
use Rattle.std.specs.Prelude.{ℕ, ◌&&◌, List, length, leb, ℤ, Option}
use Rattle.refusals.specs.Refusals.{Checked}
use Rattle.refusals.specs.declared.Refusal.{Refusal}
use Rattle.basics.specs.Edits.{Edit}
use Rattle.refusals.specs.declared.Refusal.TheVariants as refusal
use Rattle.assignment_tables.specs.declared.Shape.{Shape}
use Rattle.assignment_tables.specs.Tables.{board}
use Rattle.assignment_index.specs.Index.{roster_in}
use Rattle.assignment_state.specs.Admission.{admission}
use Rattle.refusals.specs.Answers.{then_unless, then_room, unless_refused}
use Rattle.window_kinds.specs.declared.CycleWindowCursor.{CycleWindowCursor}
use Rattle.window_kinds.specs.Kinds.{Kind, rematching, step_by, cursor_fits}
use Rattle.window_kinds.specs.Stepping.{Stepping, leaves, answering, refused_step}
use Rattle.assignment_cycle.specs.Windows.{move_at}

-- 11.11: the first of the refusals 1, 2, 3, 6, 10 and 7, if there is one, for a cursor of either kind
unfoldable pub step_refusal : Kind → Shape → List ℕ → List ℕ → List ℤ → List ℕ → List ℕ → List ℕ → CycleWindowCursor → List ℕ → List ℕ → Checked
step_refusal K S m k p R M order c O U =
    then_room
    (then_unless refusal.Cursor (admission S m k p R M (leb (length order) 128)) (cursor_fits K (length order) c))
    (leb S.rows (length O) && leb S.rows (length U))

-- 8.5, 9.5: the step of a cursor, whatever a try is worth
unfoldable pub stepping_by : Kind → (CycleWindowCursor → Option (List Edit)) → Shape → List ℕ → List ℕ → List ℤ → List ℕ → List ℕ → List ℕ → CycleWindowCursor → List ℕ → List ℕ → Stepping
stepping_by K move S m k p R M order c O U =
    unless_refused
    (λ (r : Refusal). leaves (refused_step c r) O U)
    (answering (step_by K move (length order) c) O U)
    (step_refusal K S m k p R M order c O U)

-- 8.5: the step to the next rematch over the roster that the records hold
abbrev pub stepping : Shape → List ℕ → List ℕ → List ℤ → List ℕ → List ℕ → List ℕ → CycleWindowCursor → List ℕ → List ℕ → Stepping
stepping S m k p R M order = stepping_by rematching (move_at (board S m k) (roster_in S.rows R) order) S m k p R M order
