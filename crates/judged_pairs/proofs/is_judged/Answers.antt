-- `judged_pairs::is_judged` meets its contract: the place and the power are what the calls promise. Assumes nothing.
use lib.Pow.{pow_pos}
use Rattle.word_bits.specs.Bits.{bit_at}
use Rattle.judged_pairs.specs.Judged.{is_judged}
use Rattle.judged_pairs.proofs.is_judged.Goals as goal

pub nonzero_div-result : goal.nonzero_div-result
nonzero_div-result c = rw c.power.ensures (pow_pos _)

pub returns : goal.returns
unfolding bit_at is_judged
returns c = rw (c.power.ensures, c.word_of.ensures)
