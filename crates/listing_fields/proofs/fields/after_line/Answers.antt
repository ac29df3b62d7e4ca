-- `listing_fields::fields::after_line` meets its contract. Assumes nothing.
use Rattle.listing_fields.proofs.PlaceLaws.{line_missing, line_half, line_no_return, line_no_feed, line_here}
use native.Mathlib.Omega.{arith}
use Rattle.listing_fields.proofs.fields.after_line.Goals as goal

pub returns-then-end-bytes : goal.returns-then-end-bytes
returns-then-end-bytes c = (omega arith, line_missing _ _ c.if-end-bytes.true)

pub returns-then-bytes-end-lt2 : goal.returns-then-bytes-end-lt2
returns-then-bytes-end-lt2 c = line_half c.args.bytes.now c.args.end (omega arith) c.if-bytes-end-lt2.true

pub returns-then-bytes-end-ne13 : goal.returns-then-bytes-end-ne13
returns-then-bytes-end-ne13 c = line_no_return c.args.bytes.now c.args.end (omega arith) c.if-bytes-end-ne13.true

pub returns-then-bytes-end-ne10 : goal.returns-then-bytes-end-ne10
returns-then-bytes-end-ne10 c = line_no_feed c.args.bytes.now c.args.end (omega arith) c.if-bytes-end-ne10.true

pub returns : goal.returns
returns c = (omega arith, line_here c.args.bytes.now c.args.end (omega arith) c.if-bytes-end-ne13.false c.if-bytes-end-ne10.false)
