use Rattle.basics.proofs.Loops.{all_none}
use Rattle.rematch_shift.proofs.ShiftLaws.{empty-found, one_more_lem, none_found}
use Rattle.rematch_shift.proofs.none_empty.Goals as goal

pub loop-value-init : goal.loop-value-init
loop-value-init c = all_none _

pub returns-then-value-empty : goal.returns-then-value-empty
returns-then-value-empty c = empty-found c.args.values.now c.loop-value.value-index c.loop-value-test.true c.if-value-empty.true

pub loop-value-preserved : goal.loop-value-preserved
loop-value-preserved c = let l = c.loop-value in
    one_more_lem c.args.values.now l.value-index l.invariant c.if-value-empty.false

pub returns : goal.returns
returns c = none_found _ _ c.loop-value.auto.value-index-end c.loop-value-test.false c.loop-value.invariant
