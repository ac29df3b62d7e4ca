use mathlib.Core.Path.{refl, ◌∙◌}
use native.Mathlib.Omega.{arith}
use Rattle.basics.proofs.Loops.{turns, all_none, turn_fails, turn_more, turn_end}
use Rattle.overlay_pairs.proofs.pairs.stayers_pass.Goals as goal

pub loop-other-init : goal.loop-other-init
loop-other-init c = (omega arith, (all_none _, (c.requires.recalled, refl)))

pub stayer_passes-requires : goal.stayer_passes-requires
stayer_passes-requires c = search turns

pub returns-then-not-stayer_passes : goal.returns-then-not-stayer_passes
returns-then-not-stayer_passes c = (turn_fails _ _ _ _ c.loop-other-test.true c.stayer_passes.ensures.0 (c.if-not-stayer_passes.true), c.stayer_passes.ensures.1)

pub loop-other-preserved : goal.loop-other-preserved
loop-other-preserved c = (omega arith, (turn_more _ _ _ c.loop-other.invariant.1.0 c.stayer_passes.ensures.0 (c.if-not-stayer_passes.false), (c.stayer_passes.ensures.1, c.stayer_passes.auto.judged ∙ c.loop-other.invariant.1.1.1)))

pub returns : goal.returns
returns c = (turn_end _ _ _ c.loop-other.invariant.0 c.loop-other-test.false c.loop-other.invariant.1.0, c.loop-other.invariant.1.1.0)
