-- `word_bits::visited::is_visiting` meets its contract: the power is what the call promises. Assumes nothing.
use lib.Pow.{pow_pos}
use Rattle.word_bits.specs.Bits.{bit_at}
use Rattle.word_bits.proofs.VisitingLaws.{low-marked, high-marked}
use Rattle.word_bits.proofs.visited.is_visiting.Goals as goal

pub nonzero_div-result : goal.nonzero_div-result
nonzero_div-result c = rw c.power.ensures (pow_pos _)

pub returns-then-row-lt64 : goal.returns-then-row-lt64
unfolding bit_at
returns-then-row-lt64 c = rw c.power.ensures (low-marked _ _ c.if-row-lt64.true)

pub nonzero_div-result-2 : goal.nonzero_div-result-2
nonzero_div-result-2 c = rw c.power-2.ensures (pow_pos _)

pub returns : goal.returns
unfolding bit_at
returns c = rw c.power-2.ensures (high-marked _ _ c.if-row-lt64.false)
