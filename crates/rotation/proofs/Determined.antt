-- No second result meets a contract of this crate. Assumes nothing.
use Rattle.basics.specs.Promises.{Fixes, FixesAnswer}
use Rattle.basics.proofs.Promises.{alike}
use Rattle.rotation.proofs

pub place_round_lem : FixesAnswer proofs.place_round.Reads.Post
place_round_lem κs a r s e f p q = alike p.0 q.0

-- `out`
pub copy_rotated : Fixes proofs.copy_rotated.Reads.Post λ κs r e. e.1.1.0.now
copy_rotated κs a r s e f = alike
