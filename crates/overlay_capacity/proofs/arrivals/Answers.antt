use native.Mathlib.Omega.{arith}
use Rattle.basics.proofs.Loops.{count_yes, count_no}
use Rattle.basics.proofs.Loops.{counts}
use Rattle.overlay_capacity.proofs.arrivals.Goals as goal
use Rattle.overlay_capacity.proofs.arrivals.Goals.{else-has_key, then-has_key}

pub loop-i-init : goal.loop-i-init
loop-i-init c = search counts

pub offset_bounds-list_rows-i : goal.offset_bounds-list_rows-i
offset_bounds-list_rows-i c = search counts

pub bounds-list_rows-i : goal.bounds-list_rows-i
bounds-list_rows-i c = search counts

pub offset_bounds-list_values-i : goal.offset_bounds-list_values-i
offset_bounds-list_values-i c = search counts

pub bounds-list_values-i : goal.bounds-list_values-i
bounds-list_values-i c = search counts

pub has_key-requires : goal.has_key-requires
has_key-requires c = search counts

pub overflow_add-count : goal.overflow_add-count
overflow_add-count c = search counts

pub loop-i-preserved : goal.loop-i-preserved
loop-i-preserved c = elim c.if-has_key.branch [ then-has_key w ↦ (search count_yes, omega arith) | else-has_key w ↦ (search count_no, omega arith) ]

pub returns : goal.returns
returns c = search counts
