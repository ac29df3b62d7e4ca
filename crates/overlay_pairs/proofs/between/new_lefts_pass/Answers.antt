use mathlib.Core.Path.{refl, ◌∙◌}
use Rattle.basics.proofs.Loops.{all_none, turn_fails, turn_more, turn_end}
use Rattle.overlay_pairs.proofs.between.new_lefts_pass.Goals as goal

pub loop-i-init : goal.loop-i-init
loop-i-init c = (all_none _, (c.requires.recalled, refl))

pub new_left_passes-requires : goal.new_left_passes-requires
new_left_passes-requires c = record { marked = c.requires.marked; keys_len = c.requires.keys_len; i_in_bounds = c.loop-i-test.true; recalled = c.loop-i.invariant.1.0 }

pub returns-then-not-new_left_passes : goal.returns-then-not-new_left_passes
returns-then-not-new_left_passes c = (turn_fails _ _ _ _ c.loop-i-test.true c.new_left_passes.ensures.0 (c.if-not-new_left_passes.true), c.new_left_passes.ensures.1)

pub loop-i-preserved : goal.loop-i-preserved
loop-i-preserved c = (turn_more _ _ _ c.loop-i.invariant.0 c.new_left_passes.ensures.0 (c.if-not-new_left_passes.false), (c.new_left_passes.ensures.1, c.new_left_passes.auto.judged ∙ c.loop-i.invariant.1.1))

pub returns : goal.returns
returns c = (turn_end _ _ _ c.loop-i.auto.i-end c.loop-i-test.false c.loop-i.invariant.0, c.loop-i.invariant.1.0)
