-- `calendar_writing::object::write_object` meets its contract: the header and the events make it. Assumes nothing.
use Rattle.written_text.proofs.WroteLaws.{joined}
use Rattle.calendar_format.specs.Format.{header, events, object}
use Rattle.calendar_format.specs.Slices.{paired}
use Rattle.calendar_writing.proofs.PieceLaws.{object_long_lem}
use native.Mathlib.Omega.{arith}
use Rattle.calendar_writing.proofs.object.write_object.Goals as goal

pub write_bytes-next-requires : goal.write_bytes-next-requires
write_bytes-next-requires c = omega (arith, object_long_lem c.args.stamp.now c.args.rows.now c.args.days.now, c.requires.days_in_bounds)

pub write_events-requires : goal.write_events-requires
write_events-requires c = record { rows_len = c.requires.rows_len; days_in_bounds = omega (arith, object_long_lem c.args.stamp.now c.args.rows.now c.args.days.now, c.requires.days_in_bounds, c.write_bytes-next.ensures.place, c.write_bytes-next.auto.out) }

pub returns : goal.returns
unfolding header object
returns c = joined _ _ _ _ _ _ header (events c.args.stamp.now (paired c.args.rows.now c.args.days.now)) c.write_bytes-next.ensures c.write_events.ensures
