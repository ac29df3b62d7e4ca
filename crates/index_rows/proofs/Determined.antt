-- No second result meets a contract of this crate. Assumes nothing.
use Rattle.basics.specs.Promises.{Fixes, ◌&◌}
use Rattle.basics.proofs.Promises.{alike, alike_by, both}
use Rattle.assignment_index.specs.Index.{members_of}
use Rattle.index_rows.proofs

-- `records` and `members`
pub take_out : Fixes proofs.take_out.Reads.Post λ κs r e. e.1.0.now & e.1.1.0.now
take_out κs a r s e f p q = both (alike p.0 q.0) (alike_by (members_of a.0.now.shape.rows) (alike p.0 q.0) p.1 q.1)

-- `records` and `members`
pub put_in : Fixes proofs.put_in.Reads.Post λ κs r e. e.1.0.now & e.1.1.0.now
put_in κs a r s e f p q = both (alike p.0 q.0) (alike_by (members_of a.0.now.shape.rows) (alike p.0 q.0) p.1 q.1)
