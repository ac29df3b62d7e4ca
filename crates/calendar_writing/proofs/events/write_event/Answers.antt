-- `calendar_writing::events::write_event` meets its contract: what leads to the date, the date, and the rest make it. Assumes nothing.
use Rattle.written_text.proofs.WroteLaws.{joined, called_otherwise}
use Rattle.calendar_format.specs.DateTexts.{date_text}
use Rattle.calendar_format.specs.Format.{lead, rest}
use Rattle.calendar_format.proofs.DateTextLaws.{date_long}
use Rattle.calendar_writing.proofs.PieceLaws.{event_pieces, event_long_lem}
use native.Mathlib.Omega.{arith}
use Rattle.calendar_writing.proofs.events.write_event.Goals as goal

pub write_lead-dated-requires : goal.write_lead-dated-requires
write_lead-dated-requires c = omega (arith, event_long_lem c.args.stamp.now c.args.row c.args.day, c.requires.0)

pub write_date-behind-requires : goal.write_date-behind-requires
write_date-behind-requires c = (omega (arith, event_long_lem c.args.stamp.now c.args.row c.args.day, c.requires.0, c.write_lead-dated.ensures.place, c.write_lead-dated.auto.out), c.requires.1)

pub write_rest-requires : goal.write_rest-requires
write_rest-requires c = (omega (arith, event_long_lem c.args.stamp.now c.args.row c.args.day, c.requires.0, date_long c.args.day, c.write_lead-dated.ensures.place, c.write_lead-dated.auto.out, c.write_date-behind.ensures.place, c.write_date-behind.auto.out), c.requires.1)

pub returns : goal.returns
returns c = called_otherwise _ _ _ _ _ _ (event_pieces c.args.stamp.now c.args.row c.args.day) (joined _ _ _ _ _ _ _ (rest c.args.row c.args.day) (joined _ _ _ _ _ _ (lead c.args.stamp.now c.args.row) (date_text c.args.day) c.write_lead-dated.ensures c.write_date-behind.ensures) c.write_rest.ensures)
