-- No second result meets a contract of this crate. Assumes nothing.
use mathlib.Core.Path.{ap}
use Rattle.std.specs.Prelude.{None}
use Rattle.std.specs.Result.{result_unwrap_or}
use Rattle.basics.specs.Promises.{Fixes, ◌&◌}
use Rattle.basics.proofs.Promises.{alike}
use Rattle.assignment_ejection.proofs.eject as ejects

-- the answer, `out_rows` and `out_values`
pub eject : Fixes ejects.eject.Reads.Post λ κs r e. r & e.1.1.1.1.1.0.now & e.1.1.1.1.1.1.0.now
eject κs a r s e f p q = ap (λ x. result_unwrap_or x.answer None & x.rows & x.values) (alike p q)

-- the answer, `out_rows` and `out_values`
pub ejection_reinsert_edits : Fixes ejects.ejection_reinsert_edits.Reads.Post λ κs r e. r & e.1.1.1.1.1.0.now & e.1.1.1.1.1.1.0.now
ejection_reinsert_edits κs a r s e f p q = ap (λ x. x.answer & x.rows & x.values) (alike p q)
