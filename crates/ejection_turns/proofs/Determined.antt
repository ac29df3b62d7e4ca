-- No second result meets a contract of this crate. Assumes nothing.
use mathlib.Core.Path.{ap}
use Rattle.basics.specs.Promises.{Fixes, ◌&◌}
use Rattle.basics.proofs.Promises.{alike}
use Rattle.ejection_turns.proofs

-- the answer and `values`
pub put-all-back : Fixes proofs.put_all_back.Reads.Post λ κs r e. r & e.1.1.1.0.now
put-all-back κs a r s e f p q = ap (λ x. x.stands & x.values) (alike p q)
