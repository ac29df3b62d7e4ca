use mathlib.Core.Path.{refl}
use Rattle.basics.proofs.Loops.{count_no, counts}
use Rattle.overlay_capacity.proofs.HolderLaws.{one_passes, none_passes}
use Rattle.overlay_capacity.proofs.is_left.Goals as goal

pub loop-i-init : goal.loop-i-init
loop-i-init c = search counts

pub leaves-requires : goal.leaves-requires
leaves-requires c = search counts

pub returns-then-leaves : goal.returns-then-leaves
returns-then-leaves c = one_passes _ _ _ _ c.loop-i-test.true c.leaves.ensures c.if-leaves.true

pub loop-i-preserved : goal.loop-i-preserved
loop-i-preserved c = count_no _ _ 0 _ _ c.loop-i.invariant c.leaves.ensures c.if-leaves.false refl

pub returns : goal.returns
returns c = none_passes _ _ _ c.loop-i.auto.i-end c.loop-i-test.false c.loop-i.invariant
