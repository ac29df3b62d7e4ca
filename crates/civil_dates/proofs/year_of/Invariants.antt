-- `civil_dates::year_of` meets its contract. The loop's invariant: the whole years and the rest come to the day. Assumes nothing.
use Rattle.civil_dates.specs.Dates.{year_long}
use Rattle.civil_dates.proofs.LoopLaws.{Taking}
use Rattle.civil_dates.proofs.year_of.Given as goal

abbrev pub invariant-loop-long : goal.invariant-loop-long
invariant-loop-long l = Taking year_long l.day l.whole l.rest l.long

abbrev pub decreases-loop-long : goal.decreases-loop-long
decreases-loop-long l = l.rest
