-- `calendar_writing::events::write_lead` meets its contract: five pieces make it. Assumes nothing.
use Rattle.decimals.specs.Decimals.{digits}
use Rattle.written_text.proofs.WroteLaws.{joined, called_otherwise}
use Rattle.calendar_format.specs.Format.{opening, named}
use Rattle.calendar_writing.proofs.PieceLaws.{lead_pieces, lead_long}
use native.Mathlib.Omega.{arith}
use Rattle.calendar_writing.proofs.events.write_lead.Goals as goal

pub write_bytes-stamped-requires : goal.write_bytes-stamped-requires
write_bytes-stamped-requires c = omega (arith, lead_long c.args.stamp.now c.args.row, c.requires)

pub write_bytes-named-requires : goal.write_bytes-named-requires
write_bytes-named-requires c = omega (arith, lead_long c.args.stamp.now c.args.row, c.requires, c.write_bytes-stamped.ensures.place, c.write_bytes-stamped.auto.out)

pub write_bytes-numbered-requires : goal.write_bytes-numbered-requires
write_bytes-numbered-requires c = omega (arith, lead_long c.args.stamp.now c.args.row, c.requires, c.write_bytes-stamped.ensures.place, c.write_bytes-stamped.auto.out, c.write_bytes-named.ensures.place, c.write_bytes-named.auto.out)

pub write_decimal-dated-requires : goal.write_decimal-dated-requires
write_decimal-dated-requires c = omega (arith, lead_long c.args.stamp.now c.args.row, c.requires, c.write_bytes-stamped.ensures.place, c.write_bytes-stamped.auto.out, c.write_bytes-named.ensures.place, c.write_bytes-named.auto.out, c.write_bytes-numbered.ensures.place, c.write_bytes-numbered.auto.out)

pub write_bytes-requires : goal.write_bytes-requires
write_bytes-requires c = omega (arith, lead_long c.args.stamp.now c.args.row, c.requires, c.write_bytes-stamped.ensures.place, c.write_bytes-stamped.auto.out, c.write_bytes-named.ensures.place, c.write_bytes-named.auto.out, c.write_bytes-numbered.ensures.place, c.write_bytes-numbered.auto.out, c.write_decimal-dated.ensures.0, c.write_decimal-dated.auto.out)

pub returns : goal.returns
unfolding opening named
returns c = let w = c.write_decimal-dated.ensures in called_otherwise _ _ _ _ _ _ (lead_pieces c.args.stamp.now c.args.row) (joined _ _ _ _ _ _ _ _ (joined _ _ _ _ _ _ _ (digits c.args.row) (joined _ _ _ _ _ _ _ named (joined _ _ _ _ _ _ opening _ c.write_bytes-stamped.ensures c.write_bytes-named.ensures) c.write_bytes-numbered.ensures) (record { place = w.0; bytes = w.1 })) c.write_bytes.ensures)
