-- No second result meets a contract of this crate. Assumes nothing.
use Rattle.basics.specs.Promises.{Fixes, ◌&◌}
use Rattle.basics.proofs.Promises.{alike, alike_by, both}
use Rattle.assignment_index.specs.Index.{members_of}
use Rattle.assignment_refresh.proofs.build as builds
use Rattle.assignment_refresh.proofs.many

-- `records` and `members`
pub build : Fixes builds.build.Reads.Post λ κs r e. e.1.1.0.now & e.1.1.1.0.now
build κs a r s e f p q = both (alike p.0 q.0) (alike_by (members_of a.0.now.shape.rows) (alike p.0 q.0) p.1 q.1)

-- `records` and `members`
pub refresh : Fixes many.refresh.Reads.Post λ κs r e. e.1.0.now & e.1.1.0.now
refresh κs a r s e f p q = both (alike p.0 q.0) (alike_by (members_of a.0.now.shape.rows) (alike p.0 q.0) p.1 q.1)
