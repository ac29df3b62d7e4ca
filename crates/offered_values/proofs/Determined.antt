-- No second result meets a contract of this crate. Assumes nothing.
use Rattle.basics.specs.Promises.{FixesAnswer}
use Rattle.basics.proofs.Promises.{alike}
use Rattle.offered_values.proofs

pub most_offered : FixesAnswer proofs.most_offered.Reads.Post
most_offered κs a r s e f = alike
