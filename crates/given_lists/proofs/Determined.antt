-- No second result meets a contract of this crate. Assumes nothing.
use Rattle.basics.specs.Promises.{Fixes, ◌&◌}
use Rattle.basics.proofs.Promises.{alike, both}
use Rattle.given_lists.proofs

-- the answer, `out_rows` and `out_values`
pub give_back : Fixes proofs.give_back.Reads.Post λ κs r e. r & e.1.1.1.1.0.now & e.1.1.1.1.1.0.now
give_back κs a r s e f p q = both (alike p.number q.number) (both (alike p.rows q.rows) (alike p.values q.values))

-- the answer, `out_rows` and `out_values`
pub give_edited : Fixes proofs.give_edited.Reads.Post λ κs r e. r & e.1.1.1.1.0.now & e.1.1.1.1.1.0.now
give_edited κs a r s e f p q = both (alike p.number q.number) (both (alike p.rows q.rows) (alike p.values q.values))
