use Rattle.civil_dates.specs.Dates.{year_long}
use Rattle.civil_dates.proofs.DateLaws.{year_some}
use Rattle.civil_dates.proofs.LoopLaws.{taking, taking_more, taking_few, taking_less, taken}
use native.Mathlib.Omega.{arith}
use Rattle.civil_dates.proofs.year_of.Goals as goal

pub loop-long-init : goal.loop-long-init
loop-long-init c = taking year_long _ _ c.year_days-long.ensures

pub overflow_add-whole : goal.overflow_add-whole
overflow_add-whole c = let l = c.loop-long in
    omega (arith, taking_few year_long year_some _ l.whole l.rest l.long l.invariant, c.requires)

pub overflow_add-whole-in-loop-long : goal.overflow_add-whole-in-loop-long
overflow_add-whole-in-loop-long c = let l = c.loop-long in
    omega (arith, taking_few year_long year_some _ l.whole l.rest l.long l.invariant, c.requires)

pub loop-long-smaller : goal.loop-long-smaller
loop-long-smaller c = let l = c.loop-long in
    taking_less year_long year_some _ _ _ _ l.invariant c.loop-long-test.true

pub loop-long-preserved : goal.loop-long-preserved
loop-long-preserved c = let l = c.loop-long in
    taking_more year_long _ _ _ _ _ l.invariant c.loop-long-test.true c.year_days-long-in-loop-long.ensures

pub returns : goal.returns
returns c = taken year_long year_some _ _ _ _ c.loop-long.invariant c.loop-long-test.false
