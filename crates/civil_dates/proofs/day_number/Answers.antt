-- `civil_dates::day_number` meets its contract. Assumes nothing.
use Rattle.civil_dates.proofs.DateLaws.{day_year}
use Rattle.civil_dates.proofs.LoopLaws.{number_parts}
use native.Mathlib.Omega.{arith}
use Rattle.civil_dates.proofs.day_number.Goals as goal

pub overflow_add-result : goal.overflow_add-result
overflow_add-result c = let d = c.args.date in
    omega (arith, number_parts d, (day_year d c.requires.0).1 c.requires.1, c.months_long-months.ensures)

pub overflow_add-result-2 : goal.overflow_add-result-2
overflow_add-result-2 c = let d = c.args.date in
    omega (arith, number_parts d, (day_year d c.requires.0).1 c.requires.1, c.months_long-months.ensures, c.years_long-years.ensures)

pub returns : goal.returns
returns c = let d = c.args.date in
    omega (arith, number_parts d, c.months_long-months.ensures, c.years_long-years.ensures)
