-- `calendar_reading::events::read_events` meets its contract. The loop's invariant: the duties so far, and then what the rows left are read as, are the whole. Assumes nothing.
use Prim.Native.Nat.{◌-◌}
use Rattle.calendar_format.specs.Reading.{events_from}
use Rattle.calendar_reading.specs.Places.{from}
use Rattle.calendar_reading.proofs.EventLaws.{Reading}
use Rattle.calendar_reading.proofs.events.read_events.Given as goal

abbrev pub invariant-loop-row : goal.invariant-loop-row
invariant-loop-row l = Reading (events_from 128 0 l.stamp (from l.bytes l.at)) l.bytes l.stamp (128 - l.row) l.row l.reached l.rows l.days
