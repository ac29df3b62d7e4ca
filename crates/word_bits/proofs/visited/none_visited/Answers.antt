-- `word_bits::visited::none_visited` meets its contract: 0 has no bit. Assumes nothing.
use Rattle.word_bits.proofs.VisitingLaws.{none_marked}
use Rattle.word_bits.proofs.visited.none_visited.Goals as goal

pub returns : goal.returns
returns c = none_marked
