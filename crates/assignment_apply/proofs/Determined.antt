-- No second result meets a contract of this crate. Assumes nothing.
use mathlib.Core.Path.{ap}
use Rattle.basics.specs.Promises.{Fixes, ◌&◌}
use Rattle.basics.proofs.Promises.{alike}
use Rattle.assignment_apply.proofs

-- the answer, `records` and `members`
pub apply_list : Fixes proofs.apply_list.Reads.Post λ κs r e. r & e.1.0.now & e.1.1.0.now
apply_list κs a r s e f p q = ap (λ x. x.answer & x.records & x.members) (alike p q)

-- the answer, `records` and `members`
pub assignment_apply_edits : Fixes proofs.assignment_apply_edits.Reads.Post λ κs r e. r & e.1.0.now & e.1.1.0.now
assignment_apply_edits κs a r s e f p q = ap (λ x. x.answer & x.records & x.members) (alike p q)
