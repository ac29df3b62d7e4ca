-- No second result meets a contract of this crate. Assumes nothing.
use Rattle.basics.specs.Promises.{Fixes, FixesAnswer}
use Rattle.basics.proofs.Promises.{alike}
use Rattle.judged_pairs.proofs

pub nothing-judged : FixesAnswer proofs.nothing_judged.Reads.Post
nothing-judged κs a r s e f = alike

pub is-judged : FixesAnswer proofs.is_judged.Reads.Post
is-judged κs a r s e f = alike

-- `judged`
pub remember : Fixes proofs.remember.Reads.Post λ κs r e. e.0.now
remember κs a r s e f = alike
