-- `word_bits::power` meets its contract: the shift loses nothing. Assumes nothing.
use Rattle.word_bits.proofs.Bits.{shifted_one}
use Rattle.word_bits.proofs.power.Goals as goal

pub returns : goal.returns
returns c = shifted_one c.args.b c.requires
