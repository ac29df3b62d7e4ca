-- A walk by calls of the entry, and what the original asks of a list that it builds a move of. docs/RULES.md, 8.5 and 8.6.
use Rattle.std.specs.Prelude.{ℕ, zero, suc, ◌≤◌, ◌≡◌, true, length, take, Option, None, Some, Ok, Err}
use mathlib.Core.List.{List, [], Memᴰ}
use Rattle.refusals.specs.Refusals.{Answered}
use Rattle.basics.specs.Tests.{distinct}
use Rattle.basics.specs.Edits.{Edit, rows_of, edits}
use Rattle.rules.specs.Board.{Board, value_legal}
use Rattle.window_kinds.specs.declared.CycleWindowCursor.{CycleWindowCursor}
use Rattle.window_kinds.specs.Kinds.{onward}
use Rattle.window_kinds.specs.Stepping.{Stepping}

-- the list that a call gives back
abbrev pub list_of : Answered (Option ℕ) → List ℕ → List ℕ → Option (List Edit)
list_of (Err r) O U = None
list_of (Ok None) O U = None
list_of (Ok (Some k)) O U = Some (edits (take k O) (take k U))

-- the lists of so many calls, each with the cursor and the outputs that the one before left
unfoldable pub calls : (CycleWindowCursor → List ℕ → List ℕ → Stepping) → ℕ → CycleWindowCursor → List ℕ → List ℕ → List (List Edit)
calls entry zero c O U = []
calls entry (suc k) c O U =
    let s = entry c O U in
    onward (list_of s.step.answer s.rows s.values) (calls entry k s.step.next s.rows s.values)

-- ---- what the original asks of a list when it builds a move of it: some edit, no row twice, legal values
pub record Buildable (B : Board) (L : List Edit) : Type 0 where
  pub some_edit : 1 ≤ length L
  pub once : distinct (rows_of L) ≡ true
  pub legal : (e : Edit) → Memᴰ e L → value_legal B e.row e.value ≡ true
