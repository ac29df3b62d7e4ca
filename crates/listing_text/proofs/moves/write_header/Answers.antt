-- `listing_text::moves::write_header` meets its contract: the bytes that are written are the header and its end. Assumes nothing.
use Rattle.listing_text.specs.Output.{output_header}
use Rattle.listing_text.proofs.moves.write_header.Goals as goal

pub returns : goal.returns
unfolding output_header
returns c = c.write_bytes.ensures
