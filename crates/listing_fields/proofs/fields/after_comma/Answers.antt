-- `listing_fields::fields::after_comma` meets its contract. Assumes nothing.
use Rattle.listing_fields.proofs.PlaceLaws.{comma_missing, comma-other, comma-here}
use native.Mathlib.Omega.{arith}
use Rattle.listing_fields.proofs.fields.after_comma.Goals as goal

pub returns-then-end-bytes : goal.returns-then-end-bytes
returns-then-end-bytes c = comma_missing _ _ c.if-end-bytes.true

pub returns-then-bytes-end-ne44 : goal.returns-then-bytes-end-ne44
returns-then-bytes-end-ne44 c = comma-other c.args.bytes.now c.args.end (omega arith) c.if-bytes-end-ne44.true

pub returns : goal.returns
returns c = (omega arith, comma-here c.args.bytes.now c.args.end (omega arith) c.if-bytes-end-ne44.false)
