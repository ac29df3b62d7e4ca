-- A walk that stops where the next move does not fit, and what it leaves. docs/RULES.md, 8.5, 8.8, 11.8, 11.9 and 11.11.
use Rattle.std.specs.Prelude.{ℕ, zero, suc, ◌+◌, ◌-◌, min, Bool, true, false, cond, ◌&&◌, List, [], ◌∷◌, ◌++◌, map, length, leb, ℤ, Option, None, Some, Ok}
use Rattle.std.proofs.lemmas.List.Edits.{sets}
use Rattle.refusals.specs.Refusals.{Checked, Answered}
use Rattle.refusals.specs.declared.Refusal.{Refusal}
use Rattle.basics.specs.Edits.{Edit, rows_of, values_of}
use Rattle.refusals.specs.declared.Refusal.TheVariants as refusal
use Rattle.refusals.specs.Answers.{then_unless, then_room, unless_refused}
use Rattle.assignment_tables.specs.declared.Shape.{Shape}
use Rattle.assignment_tables.specs.Tables.{board}
use Rattle.assignment_index.specs.Index.{roster_in}
use Rattle.assignment_state.specs.Admission.{admission}
use Rattle.window_kinds.specs.declared.CycleWindowCursor.{CycleWindowCursor}
use Rattle.window_kinds.specs.Kinds.{rematching, Stepped, cursor_fits}
use Rattle.assignment_cycle.specs.Windows.{rematch_step}
use Rattle.walk_answers.specs.declared.Walk.{Walk}
use Rattle.walk_answers.specs.declared.Progress.{Progress}
use Rattle.walk_answers.specs.declared.Progress.TheVariants as progress
use Rattle.walk_answers.specs.Answers.{refused_walk}

-- ---- the moves

-- the moves of a walk, the cursor behind them, and whether none is left
pub record Run : Type 0 where
  pub moves : List (List Edit)
  pub next : CycleWindowCursor
  pub done : Bool

abbrev pub stopped : CycleWindowCursor → Run
stopped c = record { moves = []; next = c; done = false }

abbrev pub finished : CycleWindowCursor → Run
finished c = record { moves = []; next = c; done = true }

abbrev pub with_move : List Edit → Run → Run
with_move L r = record { moves = L ∷ r.moves; next = r.next; done = r.done }

abbrev pub if_move : Option (List Edit) → (List Edit → Run) → Run → Run
if_move None more end = end
if_move (Some L) more end = more L

-- 8.8: steps one after the other, with room for so many moves, which have so many edits in all; a step that has none ends the walk
unfoldable pub run : (CycleWindowCursor → Stepped) → ℕ → ℕ → CycleWindowCursor → Run
run step zero a c = if_move (step c).move (λ (L : List Edit). stopped c) (finished (step c).next)
run step (suc b) a c =
    if_move (step c).move
    (λ (L : List Edit). let later = run step b (a - length L) (step c).next in cond (leb (length L) a) (with_move L later) (stopped c))
    (finished (step c).next)

-- ---- what they leave

-- the edits of moves, one behind the other
unfoldable pub joined : List (List Edit) → List Edit
joined [] = []
joined (L ∷ moves) = L ++ joined moves

-- an answer with its cursor, and what stands in the outputs then
pub record Left : Type 0 where
  pub walk : Walk
  pub rows : List ℕ
  pub values : List ℕ
  pub lengths : List ℕ

abbrev pub leaves : Walk → List ℕ → List ℕ → List ℕ → Left
leaves r O U N = record { walk = r; rows = O; values = U; lengths = N }

abbrev pub counted : Bool → ℕ → ℕ → Answered Progress
counted done i j = Ok (cond done (progress.Done i j) (progress.Moves i j))

-- behind i moves with j edits: the rest of the walk written there
unfoldable pub resumed : ℕ → ℕ → Run → List ℕ → List ℕ → List ℕ → Left
resumed i j r O U N =
    leaves
    (record { next = r.next; answer = counted r.done (i + length r.moves) (j + length (joined r.moves)) })
    (sets O j (rows_of (joined r.moves)))
    (sets U j (values_of (joined r.moves)))
    (sets N i (map length r.moves))

-- ---- the entry

-- 11.9: each output has room for so many
unfoldable pub roomy : ℕ → List ℕ → List ℕ → List ℕ → Bool
roomy n O U N = leb n (length O) && leb n (length U) && leb n (length N)

-- 11.11: the first of the refusals 1, 2, 3, 6, 10 and 7, if there is one
unfoldable pub walk_refusal : Shape → List ℕ → List ℕ → List ℤ → List ℕ → List ℕ → List ℕ → CycleWindowCursor → List ℕ → List ℕ → List ℕ → Checked
walk_refusal S m k p R M order c O U N =
    then_room (then_unless refusal.Cursor (admission S m k p R M (leb (length order) 128)) (cursor_fits rematching (length order) c)) (roomy S.rows O U N)

-- 8.8: the walk over the roster that the records hold; a refusal leaves the cursor and the outputs as they were
unfoldable pub walking : Shape → List ℕ → List ℕ → List ℤ → List ℕ → List ℕ → List ℕ → CycleWindowCursor → List ℕ → List ℕ → List ℕ → Left
walking S m k p R M order c O U N =
    unless_refused
    (λ (r : Refusal). leaves (refused_walk c r) O U N)
    (resumed 0 0 (run (rematch_step (board S m k) (roster_in S.rows R) order) (length N) (min (length O) (length U)) c) O U N)
    (walk_refusal S m k p R M order c O U N)
