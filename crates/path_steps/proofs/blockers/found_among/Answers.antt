use native.Mathlib.Omega.{arith}
use Rattle.path_steps.proofs.BlockerLaws.{blocking_start, blocking_turn, blocking_end}
use Rattle.path_steps.proofs.blockers.found_among.Goals as goal

pub loop-other-init : goal.loop-other-init
loop-other-init c = (omega arith, blocking_start _ _ _ c.args.others.now)

pub loop-other-preserved : goal.loop-other-preserved
loop-other-preserved c = (omega arith, blocking_turn _ _ _ _ _ _ _ c.loop-other-test.true c.loop-other.invariant.1 (c.with_other-found.ensures.required_value, c.with_other-found.ensures.optional_value))

pub returns : goal.returns
returns c = blocking_end _ _ _ _ _ _ c.loop-other-test.false c.loop-other.invariant.1
