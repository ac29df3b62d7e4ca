-- `civil_dates::month_of` meets its contract. The loop's invariant: the whole months and the rest come to the day. Assumes nothing.
use Rattle.civil_dates.specs.Dates.{month_long}
use Rattle.civil_dates.proofs.LoopLaws.{Taking}
use Rattle.civil_dates.proofs.month_of.Given as goal

abbrev pub invariant-loop-long : goal.invariant-loop-long
invariant-loop-long l = Taking (month_long l.year) l.day l.whole l.rest l.long

abbrev pub decreases-loop-long : goal.decreases-loop-long
decreases-loop-long l = l.rest
