-- No second result meets a contract of this crate. Assumes nothing.
use denote.RattleType.{RattleType}
use denote.Param.Laws.{Laws}
use Rattle.basics.specs.Promises.{Fixes, FixesAnswer, ◌&◌}
use Rattle.basics.proofs.Promises.{alike}
use Rattle.vector_words.proofs
use Rattle.vector_words.proofs.lines

-- the line and the words
pub read_line : Fixes lines.read_line.Reads.Post λ κs r e. r & e.1.1.0.now
read_line κs a r s e f = alike

pub ahead : FixesAnswer proofs.ahead.Reads.Post
ahead κs a r s e f = alike

pub word : FixesAnswer proofs.word.Reads.Post
word κs a r s e f = alike

pub part_of : Fixes proofs.part_of.Reads.Post λ κs r e. r.now
part_of κs a r s e f = alike

module _ (T : RattleType) (L : Laws T) where
  pub front : Fixes (proofs.front.Reads.Post T L) λ κs r e. r.now
  front κs a r s e f = alike
