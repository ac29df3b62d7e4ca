-- No second result meets a contract of this crate. Assumes nothing.
use Rattle.basics.specs.Promises.{FixesAnswer}
use Rattle.basics.proofs.Promises.{alike}
use Rattle.overlay_capacity.proofs

pub has_key : FixesAnswer proofs.has_key.Reads.Post
has_key κs a r s e f = alike

pub key-passes : FixesAnswer proofs.key_passes.Reads.Post
key-passes κs a r s e f = alike

pub capacity-passes : FixesAnswer proofs.capacity_passes.Reads.Post
capacity-passes κs a r s e f = alike
