-- No second result meets the contract of `write_duties`. Assumes nothing.
use Rattle.basics.specs.Promises.{Fixes, ◌&◌}
use Rattle.basics.proofs.Promises.{alike, both}
use Rattle.duty_records.proofs

-- the answer and `out`
pub write_duties : Fixes proofs.write_duties.Reads.Post λ κs r e. r & e.0.now
write_duties κs a r s e f p q = both (alike p.0.place q.0.place) (alike p.0.bytes q.0.bytes)
