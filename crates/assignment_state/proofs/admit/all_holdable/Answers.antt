use Prim.Native.Nat.{◌<◌}
use mathlib.Core.Path.{ap, ◌∙◌}
use native.Mathlib.Omega.{arith}
use lib.Seq.{get_or-take}
use Rattle.std.proofs.lemmas.List.{length-take-le}
use Rattle.basics.proofs.Loops.{all_none, turn_fails, turn_more, turn_end}
use Rattle.assignment_state.specs.Admission.{holdable, all_holdable}
use Rattle.assignment_state.proofs.admit.all_holdable.Goals as goal

pub loop-value-init : goal.loop-value-init
loop-value-init c = all_none _

pub returns-then-not-is_holdable : goal.returns-then-not-is_holdable
unfolding all_holdable
returns-then-not-is_holdable c = let a = c.args in
    let i = c.loop-value.value-index in
    let less : i < a.shape.rows = omega (arith, c.loop-value-test.true, length-take-le a.shape.rows a.values.now c.requires) in
    turn_fails a.shape.rows i _ _ less (c.is_holdable.ensures ∙ ap (holdable a.shape) (get_or-take a.shape.rows a.values.now i 0 less)) c.if-not-is_holdable.true

pub loop-value-preserved : goal.loop-value-preserved
loop-value-preserved c = let a = c.args in
    let i = c.loop-value.value-index in
    let less : i < a.shape.rows = omega (arith, c.loop-value-test.true, length-take-le a.shape.rows a.values.now c.requires) in
    turn_more i _ _ c.loop-value.invariant (c.is_holdable.ensures ∙ ap (holdable a.shape) (get_or-take a.shape.rows a.values.now i 0 less)) c.if-not-is_holdable.false

pub returns : goal.returns
unfolding all_holdable
returns c = let a = c.args in
    let long = length-take-le a.shape.rows a.values.now c.requires in
    turn_end a.shape.rows c.loop-value.value-index _ (omega (arith, long, c.loop-value.auto.value-index-end)) (omega (arith, long, c.loop-value-test.false)) c.loop-value.invariant
