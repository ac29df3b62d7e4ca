-- `listing_text::moves::write_refusal` meets its contract. Assumes nothing.
use Rattle.listing_text.specs.Output.{refused_word}
use Rattle.written_text.proofs.WroteLaws.{joined, called_otherwise}
use Rattle.listing_text.proofs.TextLaws.{two_pieces, refusal_long}
use native.Mathlib.Omega.{arith}
use Rattle.listing_text.proofs.moves.write_refusal.Goals as goal

pub write_bytes-next-requires : goal.write_bytes-next-requires
write_bytes-next-requires c = omega (arith, c.requires, refusal_long c.args.number)

pub write_last-requires : goal.write_last-requires
write_last-requires c = omega (arith, c.requires, refusal_long c.args.number, c.write_bytes-next.ensures.place, c.write_bytes-next.auto.out)

pub returns : goal.returns
unfolding refused_word
returns c = called_otherwise _ _ _ _ _ _ (two_pieces c.args.number) (joined _ _ _ _ _ _ refused_word _ c.write_bytes-next.ensures c.write_last.ensures)
