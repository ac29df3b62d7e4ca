-- No second result meets a contract of this crate. Assumes nothing.
use Rattle.basics.specs.Promises.{FixesAnswer}
use Rattle.basics.proofs.Promises.{alike}
use Rattle.table_refusals.proofs

pub tables_refusal : FixesAnswer proofs.tables_refusal.Reads.Post
tables_refusal κs a r s e f = alike
