-- No second result meets a contract of this crate. Assumes nothing.
use mathlib.Core.Path.{ap}
use Rattle.basics.specs.Promises.{Fixes, ◌&◌}
use Rattle.basics.proofs.Promises.{alike}
use Rattle.ejection_cycle.proofs.reinsert

-- the answer, `out_rows` and `out_values`
pub next_ejection_reinsert : Fixes reinsert.next_ejection_reinsert.Reads.Post λ κs r e. r & e.1.1.1.1.1.0.now & e.1.1.1.1.1.1.0.now
next_ejection_reinsert κs a r s e f p q = ap (λ x. x.step & x.rows & x.values) (alike p q)
