-- `calendar_writing::object::write_events` meets its contract. The loop's invariant: writing the events that are left comes to what is asked. Assumes nothing.
use lib.ListN.{drop}
use Rattle.outputs.proofs.Writing.{Writing}
use Rattle.calendar_format.specs.Format.{events}
use Rattle.calendar_format.specs.Slices.{paired}
use Rattle.calendar_writing.proofs.object.write_events.Given as goal

abbrev pub invariant-loop-i : goal.invariant-loop-i
invariant-loop-i l = Writing l.out l.next (events l.stamp (paired (drop l.i l.rows) (drop l.i l.days))) l.initial.out l.at (events l.stamp (paired l.rows l.days))
