-- No second result meets a contract of this crate. Of the two words of marks: which rows they mark. Assumes nothing.
use Rattle.basics.specs.Promises.{Fixes, FixesAnswer}
use Rattle.basics.proofs.Promises.{alike}
use Rattle.word_bits.proofs
use Rattle.word_bits.proofs.visited
use Rattle.word_bits.specs.Marks.{marked}

pub power : FixesAnswer proofs.power.Reads.Post
power κs a r s e f = alike

pub none_visited : Fixes visited.none_visited.Reads.Post λ κs r e. marked r
none_visited κs a r s e f = alike

pub is_visiting : FixesAnswer visited.is_visiting.Reads.Post
is_visiting κs a r s e f = alike

pub visit : Fixes visited.visit.Reads.Post λ κs r e. marked r
visit κs a r s e f = alike
