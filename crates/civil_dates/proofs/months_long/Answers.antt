use Rattle.civil_dates.specs.Dates.{month_long}
use Rattle.civil_dates.proofs.PartLaws.{total_le}
use Rattle.civil_dates.proofs.DateLaws.{year_bound}
use Rattle.civil_dates.proofs.LoopLaws.{adding, adding_bound, adding_more, added, month_after}
use native.Mathlib.Omega.{arith}
use Rattle.civil_dates.proofs.months_long.Goals as goal

pub loop-whole-init : goal.loop-whole-init
loop-whole-init c = adding _ _

pub overflow_add-days : goal.overflow_add-days
overflow_add-days c = let l = c.loop-whole in
    let y = c.args.year in
    let n = c.args.months in
    omega (arith, adding_bound (month_long y) n l.whole l.days l.invariant _ c.loop-whole-test.true (month_after _ _ _ c.month_days-days.ensures), total_le (month_long y) n 12 (omega arith), year_bound y)

pub loop-whole-preserved : goal.loop-whole-preserved
loop-whole-preserved c = let l = c.loop-whole in
    adding_more _ _ _ _ l.invariant _ c.loop-whole-test.true (month_after _ _ _ c.month_days-days.ensures)

pub returns : goal.returns
returns c = added _ _ _ _ c.loop-whole.invariant c.loop-whole-test.false
