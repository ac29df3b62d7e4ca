-- The walk over an order: every attempt at every window once, in order; exactly the moves among them; it ends; and the same by calls of the entry. Every move passes the final test. Assumes nothing.
use Prim.Native.Nat.{ℕ, ◌≤◌}
use mathlib.Core.Path.{◌≡◌}
use mathlib.Core.Bool.{true}
use mathlib.Core.List.{List}
use Rattle.std.specs.Prelude.{Option, Some, Ok}
use lib.ListN.{length}
use lib.Dec.{leb}
use lib.IntN.{ℤ}
use Rattle.basics.specs.Edits.{Edit}
use Rattle.basics.proofs.Lists.{◌∈◌}
use Rattle.rules.specs.Board.{Board}
use Rattle.rules.specs.Roster.{Roster}
use Rattle.rules.specs.FinalTest.{passes}
use Rattle.assignment_tables.specs.declared.Shape.{Shape}
use Rattle.assignment_tables.specs.Tables.{board}
use Rattle.assignment_index.specs.Index.{roster_in}
use Rattle.assignment_state.specs.Admission.{admission}
use Rattle.window_kinds.specs.declared.CycleWindowCursor.{CycleWindowCursor}
use Rattle.window_kinds.specs.Kinds.{reinserting, first_cursor, window_at, ahead, past, moves_of, all_tries, Walked}
use Rattle.window_kinds.proofs.StepLaws.{found-ahead}
use Rattle.window_kinds.proofs.Walked as kinds
use Rattle.assignment_cycle.specs.Walk.{calls}
use Rattle.assignment_cycle.proofs.Calls as by-calls
use Rattle.ejection_turns.specs.Ejection.{ejection}
use Rattle.ejection_cycle.specs.Reinserting.{reinsert_at, reinsert_step, reinsert_stepping}
use Rattle.ejection_cycle.proofs.MoveLaws.{move_told}

pub walked : (B : Board) (h : Roster) (limit : Option ℕ) (order : List ℕ) (size : ℕ) → length order ≤ 128 → Walked reinserting (reinsert_at B h limit order) (length order) size
walked B h limit order size few = kinds.walked reinserting kinds.reinserting_walks (reinsert_at B h limit order) (length order) size few

-- the move of a step is the list of an attempt that was still to come, has an edit, and passes; the cursor stands right behind it
pub told : (B : Board) (h : Roster) (limit : Option ℕ) (order : List ℕ) (c : CycleWindowCursor) (L : List Edit) → (reinsert_step B h limit order c).move ≡ Some L
    → (d : CycleWindowCursor) × (d ∈ ahead reinserting (length order) c) × (ejection B h limit d.variant (window_at order d) ≡ Some L) × (1 ≤ length L) × (passes B h L ≡ true) × ((reinsert_step B h limit order c).next ≡ past d)
unfolding reinsert_at
told B h limit order c L e =
    let (d, m, q, n) = found-ahead reinserting (reinsert_at B h limit order) (length order) c L e in
    let t = move_told B h limit d.variant (window_at order d) L q in
    (d, m, t.0, t.1, t.2, n)

-- from a new cursor, over admitted slices and with room, as many calls as there are attempts give back the list of each that is a move
pub all_moves : (S : Shape) (m k : List ℕ) (p : List ℤ) (R M order : List ℕ) (limit : Option ℕ) (size : ℕ) (O U : List ℕ)
    → admission S m k p R M (leb (length order) 128) ≡ Ok tt → S.rows ≤ length O → S.rows ≤ length U
    → (j : ℕ) → length (all_tries reinserting (length order) size) ≤ j
    → calls (reinsert_stepping S m k p R M order limit) j (first_cursor reinserting (length order) size) O U
    ≡ moves_of (reinsert_at (board S m k) (roster_in S.rows R) limit order) (all_tries reinserting (length order) size)
all_moves S m k p R M order limit size O U a x y j l =
    by-calls.all_moves reinserting kinds.reinserting_walks (reinsert_at (board S m k) (roster_in S.rows R) limit order) S m k p R M order size O U a x y j l
