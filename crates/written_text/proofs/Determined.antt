-- No second result meets a contract of this crate. Assumes nothing.
use Rattle.basics.specs.Promises.{Fixes, ◌&◌}
use Rattle.basics.proofs.Promises.{alike, both}
use Rattle.written_text.proofs

-- the answer and `out`
pub write_bytes : Fixes proofs.write_bytes.Reads.Post λ κs r e. r & e.0.now
write_bytes κs a r s e f p q = both (alike p.place q.place) (alike p.bytes q.bytes)
