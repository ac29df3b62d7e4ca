use Rattle.civil_dates.specs.Dates.{month_long}
use Rattle.civil_dates.proofs.DateLaws.{month_some, year_bound}
use Rattle.civil_dates.proofs.LoopLaws.{taking, taking_more, taking_few, taking_less, taken, month_after}
use native.Mathlib.Omega.{arith}
use Rattle.civil_dates.proofs.month_of.Goals as goal

pub loop-long-init : goal.loop-long-init
loop-long-init c = taking (month_long _) _ _ c.month_days-long.ensures

pub overflow_add-whole : goal.overflow_add-whole
overflow_add-whole c = let l = c.loop-long in
    omega (arith, taking_few (month_long c.args.year) (month_some c.args.year) c.args.day l.whole l.rest l.long l.invariant, c.requires, year_bound c.args.year)

pub overflow_add-whole-in-loop-long : goal.overflow_add-whole-in-loop-long
overflow_add-whole-in-loop-long c = let l = c.loop-long in
    omega (arith, taking_few (month_long c.args.year) (month_some c.args.year) c.args.day l.whole l.rest l.long l.invariant, c.requires, year_bound c.args.year)

pub loop-long-smaller : goal.loop-long-smaller
loop-long-smaller c = let l = c.loop-long in
    taking_less _ (month_some _) _ _ _ _ l.invariant c.loop-long-test.true

pub loop-long-preserved : goal.loop-long-preserved
loop-long-preserved c = let l = c.loop-long in
    taking_more _ _ _ _ _ _ l.invariant c.loop-long-test.true (month_after _ _ _ c.month_days-long-in-loop-long.ensures)

pub returns : goal.returns
returns c = taken _ (month_some _) _ _ _ _ c.loop-long.invariant c.loop-long-test.false
