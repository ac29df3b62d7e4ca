-- No second result meets a contract of this crate. Of the memory they say only that what it recalls is so. Assumes nothing.
use Rattle.basics.specs.Promises.{FixesAnswer}
use Rattle.basics.proofs.Promises.{alike}
use Rattle.path_memory.proofs

pub recall : FixesAnswer proofs.recall.Reads.Post
recall κs a r s e f p q = alike p.0 q.0

pub hopeless : FixesAnswer proofs.hopeless.Reads.Post
hopeless κs a r s e f p q = alike p.0 q.0

pub fresh_memory : FixesAnswer proofs.fresh_memory.Reads.Post
fresh_memory κs a r s e f = alike
