-- The move that an attempt at a window makes, the next move from a cursor on, and what the entry answers. docs/RULES.md, 9.4 to 9.6, 11.8, 11.9 and 11.11.
use Rattle.std.specs.Prelude.{ℕ, List, length, ℤ, Option, None, Some}
use Rattle.basics.specs.Edits.{Edit}
use Rattle.rules.specs.Board.{Board}
use Rattle.rules.specs.Roster.{Roster}
use Rattle.assignment_tables.specs.declared.Shape.{Shape}
use Rattle.assignment_tables.specs.Tables.{board}
use Rattle.assignment_index.specs.Index.{roster_in}
use Rattle.window_kinds.specs.declared.CycleWindowCursor.{CycleWindowCursor}
use Rattle.window_kinds.specs.Kinds.{reinserting, window_at, Stepped, step_by}
use Rattle.window_kinds.specs.Stepping.{Stepping}
use Rattle.given_lists.specs.Passing.{move_in}
use Rattle.assignment_cycle.specs.Stepping.{stepping_by}
use Rattle.ejection_turns.specs.Ejection.{ejection}

abbrev pub if_listed : Board → Roster → Option (List Edit) → Option (List Edit)
if_listed B h None = None
if_listed B h (Some L) = move_in B h L

-- 9.5: the move that an attempt at a window makes
unfoldable pub reinsert_move : Board → Roster → Option ℕ → ℕ → List ℕ → Option (List Edit)
reinsert_move B h limit attempt window = if_listed B h (ejection B h limit attempt window)

unfoldable pub reinsert_at : Board → Roster → Option ℕ → List ℕ → CycleWindowCursor → Option (List Edit)
reinsert_at B h limit order c = reinsert_move B h limit c.variant (window_at order c)

-- 9.5: the step of a cursor
abbrev pub reinsert_step : Board → Roster → Option ℕ → List ℕ → CycleWindowCursor → Stepped
reinsert_step B h limit order = step_by reinserting (reinsert_at B h limit order) (length order)

-- 9.5: the same as an entry answers it, over the roster that the records hold
abbrev pub reinsert_stepping : Shape → List ℕ → List ℕ → List ℤ → List ℕ → List ℕ → List ℕ → Option ℕ → CycleWindowCursor → List ℕ → List ℕ → Stepping
reinsert_stepping S m k p R M order limit = stepping_by reinserting (reinsert_at (board S m k) (roster_in S.rows R) limit order) S m k p R M order
