-- The move that a variant of a window makes, and the next move from a cursor on. docs/RULES.md, 8.3 to 8.6.
use Rattle.std.specs.Prelude.{ℕ, cond, List, length, ltb, Option, None}
use Rattle.basics.specs.Edits.{Edit}
use Rattle.rules.specs.Board.{Board}
use Rattle.rules.specs.Roster.{Roster}
use Rattle.rematch_shift.specs.Shift.{shift_edits}
use Rattle.window_kinds.specs.declared.CycleWindowCursor.{CycleWindowCursor}
use Rattle.window_kinds.specs.Kinds.{rematching, window_at, shift_of, Stepped, step_by}
use Rattle.given_lists.specs.Passing.{passing}

-- ---- what a variant is worth

-- 8.4: fewer than two edits are no move
unfoldable pub move_of : Board → Roster → List ℕ → ℕ → Option (List Edit)
move_of B h W shift = let L = shift_edits h W shift in cond (ltb (length L) 2) None (passing B h L)

unfoldable pub move_at : Board → Roster → List ℕ → CycleWindowCursor → Option (List Edit)
move_at B h order c = move_of B h (window_at order c) (shift_of c)

-- 8.5: the step of a cursor
abbrev pub rematch_step : Board → Roster → List ℕ → CycleWindowCursor → Stepped
rematch_step B h order = step_by rematching (move_at B h order) (length order)
