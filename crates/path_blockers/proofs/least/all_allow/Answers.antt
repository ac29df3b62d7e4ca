use mathlib.Core.Path.{sym, ◌∙◌}
use Rattle.basics.proofs.Below.{all-below}
use Rattle.basics.proofs.Loops.{turns, turn_fails, turn_end}
use Rattle.path_blockers.proofs.least.all_allow.Goals as goal

pub loop-other-init : goal.loop-other-init
loop-other-init c = search turns

pub returns-then-not-allows : goal.returns-then-not-allows
returns-then-not-allows c = turn_fails _ _ _ _ c.loop-other-test.true c.allows.ensures (c.if-not-allows.true) ∙ sym (all-below _ 0 _)

pub loop-other-preserved : goal.loop-other-preserved
loop-other-preserved c = search turns

pub returns : goal.returns
returns c = turn_end _ _ _ c.loop-other.invariant.0 c.loop-other-test.false c.loop-other.invariant.1 ∙ sym (all-below _ 0 _)
