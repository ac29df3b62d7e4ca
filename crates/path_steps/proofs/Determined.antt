-- No second result meets a contract of this crate. Of the cells behind the list nothing is said: they are scratch. Assumes nothing.
use Rattle.basics.specs.Promises.{Fixes, FixesAnswer, ◌&◌}
use Rattle.basics.proofs.Promises.{alike, both}
use Rattle.path_steps.proofs.displace
use Rattle.path_steps.proofs.free
use Rattle.path_steps.proofs.judge
use Rattle.path_steps.specs.Lists.{front}

-- the number of edits, and the list in front of both slices
pub displace_blockers : Fixes displace.displace_blockers.Reads.Post λ κs r e. r & front r e.1.1.0.now e.1.1.1.0.now
displace_blockers κs a r s e f p q = both (alike p.count q.count) (alike p.list q.list)

pub free_after : FixesAnswer free.free_after.Reads.Post
free_after κs a r s e f = alike

pub prospect : FixesAnswer judge.prospect.Reads.Post
prospect κs a r s e f = alike
