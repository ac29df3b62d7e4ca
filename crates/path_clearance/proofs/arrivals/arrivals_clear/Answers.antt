use Rattle.basics.proofs.Loops.{all_none, turn_fails, turn_more, turn_end}
use Rattle.path_clearance.proofs.arrivals.arrivals_clear.Goals as goal

pub loop-i-init : goal.loop-i-init
loop-i-init c = all_none _

pub returns-then-not-arrival_clear : goal.returns-then-not-arrival_clear
returns-then-not-arrival_clear c = turn_fails _ _ _ _ c.loop-i-test.true c.arrival_clear.ensures (c.if-not-arrival_clear.true)

pub loop-i-preserved : goal.loop-i-preserved
loop-i-preserved c = turn_more _ _ _ c.loop-i.invariant c.arrival_clear.ensures (c.if-not-arrival_clear.false)

pub returns : goal.returns
returns c = turn_end _ _ _ c.loop-i.auto.i-end c.loop-i-test.false c.loop-i.invariant
