-- Every move that a step gives passes the final test. Assumes nothing.
-- So the original's building of a move, which reads the list once more, never says no here: every caller of it has the final test passed first, which leaves only
-- the empty list to be turned away, and a window's list has two edits. Nobody needed that reading but a caller with an untested list, and there is none.
use Prim.Native.Nat.{ℕ, ◌≤◌}
use mathlib.Core.Path.{◌≡◌}
use mathlib.Core.Bool.{true}
use mathlib.Core.List.{List}
use Rattle.std.specs.Prelude.{Some}
use native.Mathlib.Omega.{arith}
use lib.ListN.{length}
use Rattle.basics.specs.Edits.{Edit}
use Rattle.basics.proofs.Lists.{◌∈◌}
use Rattle.rules.specs.Board.{Board}
use Rattle.rules.specs.Roster.{Roster}
use Rattle.rules.specs.FinalTest.{passes}
use Rattle.rules.proofs.Passing.{passes_iff}
use Rattle.rematch_shift.specs.Shift.{shift_edits}
use Rattle.window_kinds.specs.declared.CycleWindowCursor.{CycleWindowCursor}
use Rattle.window_kinds.specs.Kinds.{rematching, window_at, ahead, shift_of, past}
use Rattle.window_kinds.proofs.StepLaws.{found-ahead}
use Rattle.assignment_cycle.specs.Windows.{move_at, rematch_step}
use Rattle.assignment_cycle.specs.Walk.{Buildable}
use Rattle.assignment_cycle.proofs.MoveLaws.{move_told}

module _ (B : Board) (h : Roster) (order : List ℕ) (c : CycleWindowCursor) (L : List Edit) (e : (rematch_step B h order c).move ≡ Some L) where
  -- it is the shift of a window that was still to come
  pub from_window : (d : CycleWindowCursor) × (d ∈ ahead rematching (length order) c) × (L ≡ shift_edits h (window_at order d) (shift_of d)) × ((rematch_step B h order c).next ≡ past d)
  unfolding move_at
  from_window =
      let (d, m, q, r) = found-ahead rematching (move_at B h order) (length order) c L e in
      (d, m, (move_told B h (window_at order d) (shift_of d) L q).0, r)

  two_and_passes : (2 ≤ length L) × (passes B h L ≡ true)
  unfolding move_at
  two_and_passes =
      let (d, m, q, r) = found-ahead rematching (move_at B h order) (length order) c L e in
      let t = move_told B h (window_at order d) (shift_of d) L q in
      (t.1, t.2)

  pub move_passes : passes B h L ≡ true
  move_passes = two_and_passes.1

  pub move_builds : Buildable B L
  move_builds =
      let p = ((passes_iff B h L).0 move_passes).0 in
      record { some_edit = omega (arith, two_and_passes.0); once = p.apart; legal = λ d m. (p.each d m).legal }
