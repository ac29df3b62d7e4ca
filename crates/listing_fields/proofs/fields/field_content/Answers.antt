-- `listing_fields::fields::field_content` meets its contract. Assumes nothing.
use Rattle.basics.proofs.Options.{none_so}
use Rattle.listing_fields.proofs.PlaceLaws.{between, content-blank, content_number, content_neither}
use native.Mathlib.Omega.{arith}
use Rattle.listing_fields.proofs.fields.field_content.Goals as goal

pub returns-then-at-end : goal.returns-then-at-end
returns-then-at-end c = let size = between c.args.bytes.now c.args.at c.args.end c.requires.0 c.requires.1 in
    (c.requires.2, content-blank _ _ (omega (arith, size)))

pub returns-in_err-number : goal.returns-in_err-number
returns-in_err-number c = let size = between c.args.bytes.now c.args.at c.args.end c.requires.0 c.requires.1 in
    none_so _ _ c.from_residual.ensures (content_neither _ _ _ (λ z. c.if-at-end.false (omega (arith, size))) c.read_decimal.ensures c.in_err-number.was)

pub returns : goal.returns
returns c = let size = between c.args.bytes.now c.args.at c.args.end c.requires.0 c.requires.1 in
    (c.requires.2, content_number _ _ _ _ (λ z. c.if-at-end.false (omega (arith, size))) c.read_decimal.ensures c.in_ok-number.was)
