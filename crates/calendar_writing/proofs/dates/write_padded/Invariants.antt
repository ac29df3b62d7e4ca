-- `calendar_writing::dates::write_padded` meets its contract. The loop's invariant: so many digits of the rest are still to be written, and those behind stand. Assumes nothing.
use Rattle.calendar_writing.proofs.PaddedLaws.{Backwards}
use Rattle.calendar_writing.proofs.dates.write_padded.Given as goal

abbrev pub invariant-loop-left : goal.invariant-loop-left
invariant-loop-left l = Backwards l.out l.left l.rest l.initial.out l.at l.width l.number
