-- `civil_dates::years_long` meets its contract. The loop's invariant: the days so far are those of the years so far. Assumes nothing.
use Rattle.civil_dates.specs.Dates.{year_long}
use Rattle.civil_dates.proofs.LoopLaws.{Adding}
use Rattle.civil_dates.proofs.years_long.Given as goal

abbrev pub invariant-loop-whole : goal.invariant-loop-whole
invariant-loop-whole l = Adding year_long l.years l.whole l.days
