-- `assignment_walk::place::copy_at` meets its contract. The loop's invariant: writing what is left of the list comes to what is asked. Assumes nothing.
use Prim.Native.Nat.{◌≤◌, ◌-◌, ◌+◌}
use lib.ListN.{length, drop}
use Rattle.outputs.proofs.Writing.{Writing}
use Rattle.assignment_walk.proofs.place.copy_at.Given as goal

abbrev pub invariant-loop-i : goal.invariant-loop-i
invariant-loop-i l = (l.i ≤ length l.list) × Writing l.out (l.at + l.i) (drop l.i l.list) l.initial.out l.at l.list

abbrev pub decreases-loop-i : goal.decreases-loop-i
decreases-loop-i l = length l.list - l.i
