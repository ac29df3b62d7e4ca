-- No second result meets a contract of this crate. Assumes nothing.
use mathlib.Core.Path.{ap}
use Rattle.basics.specs.Promises.{Fixes, ◌&◌}
use Rattle.basics.proofs.Promises.{alike, both}
use Rattle.assignment_conflicts.proofs.listing

-- the answer, `out_keys` and `out_rows`
pub list_conflicts : Fixes listing.list_conflicts.Reads.Post λ κs r e. r & e.1.1.0.now & e.1.1.1.0.now
list_conflicts κs a r s e f p q = both (alike p.number q.number) (both (alike p.keys q.keys) (alike p.rows q.rows))

-- the answer, `out_keys` and `out_rows`
pub capacity_conflicts : Fixes listing.capacity_conflicts.Reads.Post λ κs r e. r & e.1.1.0.now & e.1.1.1.0.now
capacity_conflicts κs a r s e f p q = ap (λ x. x.answer & x.keys & x.rows) (alike p q)
