-- `path_steps::blockers::found_among` meets its contract: one row more with each turn. Assumes nothing.
use Prim.Native.Nat.{◌≤◌}
use lib.ListN.{length, take}
use Rattle.path_steps.specs.Judging.{Blocking}
use Rattle.path_steps.proofs.blockers.found_among.Given as goal

abbrev pub invariant-loop-other : goal.invariant-loop-other
invariant-loop-other l = (l.other-index ≤ length l.others) × Blocking l.tables.shape l.tables.marks.now l.row (take l.other-index l.others) l.found
