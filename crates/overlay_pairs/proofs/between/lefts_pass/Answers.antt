use mathlib.Core.Path.{refl, ◌∙◌}
use native.Mathlib.Omega.{arith}
use Rattle.basics.proofs.Loops.{all_none, turn_fails, turn_more, turn_end}
use Rattle.overlay_pairs.proofs.between.lefts_pass.Goals as goal

pub loop-left-init : goal.loop-left-init
loop-left-init c = (omega arith, (all_none _, (c.requires.recalled, refl)))

pub left_passes-requires : goal.left_passes-requires
left_passes-requires c = record { marked = c.requires.marked; keys_len = c.requires.keys_len; recalled = c.loop-left.invariant.1.1.0 }

pub returns-then-not-left_passes : goal.returns-then-not-left_passes
returns-then-not-left_passes c = (turn_fails _ _ _ _ c.loop-left-test.true c.left_passes.ensures.0 (c.if-not-left_passes.true), c.left_passes.ensures.1)

pub loop-left-preserved : goal.loop-left-preserved
loop-left-preserved c = (omega arith, (turn_more _ _ _ c.loop-left.invariant.1.0 c.left_passes.ensures.0 (c.if-not-left_passes.false), (c.left_passes.ensures.1, c.left_passes.auto.judged ∙ c.loop-left.invariant.1.1.1)))

pub returns : goal.returns
returns c = (turn_end _ _ _ c.loop-left.invariant.0 c.loop-left-test.false c.loop-left.invariant.1.0, c.loop-left.invariant.1.1.0)
