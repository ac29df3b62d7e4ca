-- `calendar_writing::events::write_rest` meets its contract: five pieces make it. Assumes nothing.
use Rattle.decimals.specs.Decimals.{digits}
use Rattle.written_text.proofs.WroteLaws.{joined, called_otherwise}
use Rattle.calendar_format.specs.DateTexts.{date_text}
use Rattle.calendar_format.specs.Format.{starts, called, closed}
use Rattle.calendar_format.proofs.DateTextLaws.{date_long}
use Rattle.calendar_writing.proofs.PieceLaws.{rest_pieces, rest_long}
use native.Mathlib.Omega.{arith}
use Rattle.calendar_writing.proofs.events.write_rest.Goals as goal

pub write_bytes-dated-requires : goal.write_bytes-dated-requires
write_bytes-dated-requires c = omega (arith, rest_long c.args.row c.args.day, c.requires.0)

pub write_date-called-requires : goal.write_date-called-requires
write_date-called-requires c = (omega (arith, rest_long c.args.row c.args.day, c.requires.0, c.write_bytes-dated.ensures.place, c.write_bytes-dated.auto.out), c.requires.1)

pub write_bytes-numbered-requires : goal.write_bytes-numbered-requires
write_bytes-numbered-requires c = omega (arith, rest_long c.args.row c.args.day, c.requires.0, date_long c.args.day, c.write_bytes-dated.ensures.place, c.write_bytes-dated.auto.out, c.write_date-called.ensures.place, c.write_date-called.auto.out)

pub write_decimal-closed-requires : goal.write_decimal-closed-requires
write_decimal-closed-requires c = omega (arith, rest_long c.args.row c.args.day, c.requires.0, date_long c.args.day, c.write_bytes-dated.ensures.place, c.write_bytes-dated.auto.out, c.write_date-called.ensures.place, c.write_date-called.auto.out, c.write_bytes-numbered.ensures.place, c.write_bytes-numbered.auto.out)

pub write_bytes-requires : goal.write_bytes-requires
write_bytes-requires c = omega (arith, rest_long c.args.row c.args.day, c.requires.0, date_long c.args.day, c.write_bytes-dated.ensures.place, c.write_bytes-dated.auto.out, c.write_date-called.ensures.place, c.write_date-called.auto.out, c.write_bytes-numbered.ensures.place, c.write_bytes-numbered.auto.out, c.write_decimal-closed.ensures.0, c.write_decimal-closed.auto.out)

pub returns : goal.returns
unfolding starts called closed
returns c = let w = c.write_decimal-closed.ensures in called_otherwise _ _ _ _ _ _ (rest_pieces c.args.row c.args.day) (joined _ _ _ _ _ _ _ closed (joined _ _ _ _ _ _ _ (digits c.args.row) (joined _ _ _ _ _ _ _ called (joined _ _ _ _ _ _ starts (date_text c.args.day) c.write_bytes-dated.ensures c.write_date-called.ensures) c.write_bytes-numbered.ensures) (record { place = w.0; bytes = w.1 })) c.write_bytes.ensures)
