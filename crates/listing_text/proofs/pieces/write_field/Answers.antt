-- `listing_text::pieces::write_field` meets its contract. Assumes nothing.
use Rattle.decimals.specs.Decimals.{digits}
use Rattle.written_text.proofs.WroteLaws.{joined}
use Rattle.listing_text.proofs.pieces.write_field.Goals as goal

pub returns : goal.returns
returns c = let w = c.write_decimal-next.ensures in
    joined _ _ _ _ _ _ (digits c.args.number) _ (record { place = w.0; bytes = w.1 }) c.write_bytes.ensures
