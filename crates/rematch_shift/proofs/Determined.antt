-- No second result meets a contract of this crate. Assumes nothing.
use Rattle.basics.specs.Promises.{Fixes, ◌&◌}
use Rattle.basics.proofs.Promises.{alike, both}
use Rattle.rematch_shift.proofs

-- the answer, `list_rows` and `list_values`
pub shift_edits_lem : Fixes proofs.shift_edits.Reads.Post λ κs r e. r & e.1.1.1.1.0.now & e.1.1.1.1.1.0.now
shift_edits_lem κs a r s e f p q = both (alike p.number q.number) (both (alike p.rows q.rows) (alike p.values q.values))
