-- No second result meets a contract of this crate. Assumes nothing.
use Rattle.basics.specs.Promises.{FixesAnswer}
use Rattle.basics.proofs.Promises.{alike}
use Rattle.index_check.proofs

pub is-index : FixesAnswer proofs.is_index.Reads.Post
is-index κs a r s e f = alike
