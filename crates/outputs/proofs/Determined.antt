-- No second result meets a contract of this crate. Assumes nothing.
use Rattle.basics.specs.Promises.{Fixes, FixesAnswer}
use Rattle.basics.proofs.Promises.{alike}
use Rattle.outputs.proofs

-- `out`
pub copy_front : Fixes proofs.copy_front.Reads.Post λ κs r e. e.1.0.now
copy_front κs a r s e f = alike

pub scratch : FixesAnswer proofs.scratch.Reads.Post
scratch κs a r s e f = alike
