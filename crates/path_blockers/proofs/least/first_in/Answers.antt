use native.Mathlib.Omega.{arith}
use Rattle.path_blockers.proofs.LeastLaws.{least_start, least_turn, least_end}
use Rattle.path_blockers.proofs.least.first_in.Goals as goal

pub loop-other-init : goal.loop-other-init
loop-other-init c = (omega arith, least_start _ _ _ c.args.others.now)

pub loop-other-preserved : goal.loop-other-preserved
loop-other-preserved c = (omega arith, least_turn _ _ _ _ _ _ c.loop-other-test.true c.loop-other.invariant.1 _ c.better-best.ensures)

pub returns : goal.returns
returns c = least_end _ _ _ _ _ _ c.loop-other-test.false c.loop-other.invariant.1
