use native.Mathlib.Omega.{arith}
use Rattle.basics.proofs.Loops.{count_yes, count_no}
use Rattle.basics.proofs.Loops.{counts}
use Rattle.overlay_capacity.proofs.departures.Goals as goal
use Rattle.overlay_capacity.proofs.departures.Goals.{else-leaves, then-leaves}

pub loop-i-init : goal.loop-i-init
loop-i-init c = search counts

pub leaves-requires : goal.leaves-requires
leaves-requires c = search counts

pub overflow_add-count : goal.overflow_add-count
overflow_add-count c = search counts

pub loop-i-preserved : goal.loop-i-preserved
loop-i-preserved c = elim c.if-leaves.branch [ then-leaves w ↦ (search count_yes, omega arith) | else-leaves w ↦ (search count_no, omega arith) ]

pub returns : goal.returns
returns c = search counts
