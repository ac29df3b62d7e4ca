use Rattle.civil_dates.specs.Dates.{year_long}
use Rattle.civil_dates.proofs.PartLaws.{total_le}
use Rattle.civil_dates.proofs.DateLaws.{years_all}
use Rattle.civil_dates.proofs.LoopLaws.{adding, adding_bound, adding_more, added}
use native.Mathlib.Omega.{arith}
use Rattle.civil_dates.proofs.years_long.Goals as goal

pub loop-whole-init : goal.loop-whole-init
loop-whole-init c = adding year_long _

pub overflow_add-days : goal.overflow_add-days
overflow_add-days c = let l = c.loop-whole in
    let n = c.args.years in
    omega (arith, adding_bound year_long n l.whole l.days l.invariant _ c.loop-whole-test.true c.year_days-days.ensures, total_le year_long n 8030 (omega arith), years_all)

pub loop-whole-preserved : goal.loop-whole-preserved
loop-whole-preserved c = let l = c.loop-whole in
    adding_more year_long _ _ _ l.invariant _ c.loop-whole-test.true c.year_days-days.ensures

pub returns : goal.returns
returns c = added year_long _ _ _ c.loop-whole.invariant c.loop-whole-test.false
