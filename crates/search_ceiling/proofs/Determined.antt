-- No second result meets a contract of this crate. Assumes nothing.
use mathlib.Core.Path.{ap}
use Rattle.basics.specs.Promises.{Fixes, FixesAnswer, ◌&◌}
use Rattle.basics.proofs.Promises.{alike}
use Rattle.search_ceiling.proofs

pub ask_ceiling : FixesAnswer proofs.ask_ceiling.Reads.Post
ask_ceiling κs a r s e f = alike

-- the code and `most`
pub ceiling_told_lem : Fixes proofs.codes.ceiling_told.Reads.Post λ κs r e. r & e.1.1.0.now
ceiling_told_lem κs a r s e f p q = ap (λ x. x.code & x.most) (alike p q)
