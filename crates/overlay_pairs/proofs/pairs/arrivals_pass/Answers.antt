use mathlib.Core.Path.{refl, ◌∙◌}
use Rattle.basics.proofs.Loops.{turns, all_none, turn_fails, turn_more, turn_end}
use Rattle.overlay_pairs.proofs.pairs.arrivals_pass.Goals as goal

pub loop-i-init : goal.loop-i-init
loop-i-init c = (all_none _, (c.requires.recalled, refl))

pub offset_bounds-list_rows-i : goal.offset_bounds-list_rows-i
offset_bounds-list_rows-i c = search turns

pub bounds-list_rows-i : goal.bounds-list_rows-i
bounds-list_rows-i c = search turns

pub offset_bounds-list_values-i : goal.offset_bounds-list_values-i
offset_bounds-list_values-i c = search turns

pub bounds-list_values-i : goal.bounds-list_values-i
bounds-list_values-i c = search turns

pub arrival_passes-requires : goal.arrival_passes-requires
arrival_passes-requires c = search turns

pub returns-then-not-arrival_passes : goal.returns-then-not-arrival_passes
returns-then-not-arrival_passes c = (turn_fails _ _ _ _ c.loop-i-test.true c.arrival_passes.ensures.0 (c.if-not-arrival_passes.true), c.arrival_passes.ensures.1)

pub loop-i-preserved : goal.loop-i-preserved
loop-i-preserved c = (turn_more _ _ _ c.loop-i.invariant.0 c.arrival_passes.ensures.0 (c.if-not-arrival_passes.false), (c.arrival_passes.ensures.1, c.arrival_passes.auto.judged ∙ c.loop-i.invariant.1.1))

pub returns : goal.returns
returns c = (turn_end _ _ _ c.loop-i.auto.i-end c.loop-i-test.false c.loop-i.invariant.0, c.loop-i.invariant.1.0)
