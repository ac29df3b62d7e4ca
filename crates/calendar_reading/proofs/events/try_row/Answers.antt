-- `calendar_reading::events::try_row` meets its contract. Assumes nothing.
use Rattle.std.proofs.lemmas.Option.{MatchOption-at_none, MatchOption-at_some}
use Rattle.calendar_reading.proofs.EventLaws.{row_skipped, row_added}
use native.Mathlib.Omega.{arith}
use Rattle.calendar_reading.proofs.events.try_row.Goals as goal

pub read_event-requires : goal.read_event-requires
read_event-requires c = c.requires.place_in_bounds

pub returns-in_default : goal.returns-in_default
returns-in_default c = row_skipped _ _ _ _ _ _ c.requires.place_in_bounds.0 (MatchOption-at_none _ _ c.in_default.is c.read_event.ensures)

pub bounds-days-count : goal.bounds-days-count
bounds-days-count c = omega (arith, c.requires.count_in_bounds)

pub returns : goal.returns
returns c = let t = MatchOption-at_some _ _ _ c.in-Some.is c.read_event.ensures in row_added _ _ _ _ _ _ c.requires.place_in_bounds.0 _ _ t.0 t.1
