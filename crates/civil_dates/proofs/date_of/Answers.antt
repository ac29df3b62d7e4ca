-- `civil_dates::date_of` meets its contract. Assumes nothing.
use Rattle.civil_dates.specs.Dates.{year_long}
use Rattle.civil_dates.proofs.PartLaws.{part_few}
use Rattle.civil_dates.proofs.DateLaws.{month_some, year_some}
use Rattle.civil_dates.proofs.LoopLaws.{rest_in_year, date-made}
use native.Mathlib.Omega.{arith}
use Rattle.civil_dates.proofs.date_of.Goals as goal

pub overflow_add-year : goal.overflow_add-year
overflow_add-year c = let y = c.year_of-years in
    omega (arith, (part_few year_long year_some _ y.result y.ensures).0, c.requires)

pub month_of-months-requires : goal.month_of-months-requires
month_of-months-requires c = let y = c.year_of-years in
    rest_in_year _ y.result y.ensures

pub overflow_add-result : goal.overflow_add-result
overflow_add-result c = let y = c.year_of-years in
    let m = c.month_of-months in
    omega (arith, (part_few year_long year_some _ y.result y.ensures).1, (part_few _ (month_some _) _ m.result m.ensures).0, c.requires)

pub overflow_add-result-2 : goal.overflow_add-result-2
overflow_add-result-2 c = let y = c.year_of-years in
    let m = c.month_of-months in
    omega (arith, (part_few year_long year_some _ y.result y.ensures).1, (part_few _ (month_some _) _ m.result m.ensures).1, c.requires)

pub returns : goal.returns
returns c = let y = c.year_of-years in
    let m = c.month_of-months in
    date-made _ y.result m.result y.ensures m.ensures
