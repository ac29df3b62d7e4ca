-- No second result meets a contract of this crate. Assumes nothing.
use Rattle.basics.specs.Promises.{Fixes, ◌&◌}
use Rattle.basics.proofs.Promises.{alike, both}
use Rattle.assignment_updates.proofs.refresh

-- the answer, `records` and `members`
pub refresh_rows : Fixes refresh.refresh_rows.Reads.Post λ κs r e. r & e.1.0.now & e.1.1.0.now
refresh_rows κs a r s e f p q = both (alike p.0 q.0) (both (alike p.1.0 q.1.0) (alike p.1.1 q.1.1))

-- the answer, `records` and `members`
pub build_index : Fixes refresh.build_index.Reads.Post λ κs r e. r & e.1.1.0.now & e.1.1.1.0.now
build_index κs a r s e f p q = both (alike p.0 q.0) (both (alike p.1.0 q.1.0) (alike p.1.1 q.1.1))
