-- `civil_dates::months_long` meets its contract. The loop's invariant: the days so far are those of the months so far. Assumes nothing.
use Rattle.civil_dates.specs.Dates.{month_long}
use Rattle.civil_dates.proofs.LoopLaws.{Adding}
use Rattle.civil_dates.proofs.months_long.Given as goal

abbrev pub invariant-loop-whole : goal.invariant-loop-whole
invariant-loop-whole l = Adding (month_long l.year) l.months l.whole l.days
