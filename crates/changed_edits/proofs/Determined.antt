-- No second result meets a contract of this crate. Assumes nothing.
use Rattle.basics.specs.Promises.{Fixes, ◌&◌}
use Rattle.basics.proofs.Promises.{alike, both}
use Rattle.changed_edits.proofs

-- the answer, `out_rows` and `out_values`
pub write_changed : Fixes proofs.write_changed.Reads.Post λ κs r e. r & e.1.1.1.1.0.now & e.1.1.1.1.1.0.now
write_changed κs a r s e f p q = both (alike p.number q.number) (both (alike p.rows q.rows) (alike p.values q.values))
