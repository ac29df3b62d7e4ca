-- No second result meets a contract of this crate. Assumes nothing.
use Rattle.basics.specs.Promises.{FixesAnswer}
use Rattle.basics.proofs.Promises.{alike}
use Rattle.overlay_edges.proofs

pub edges_pass : FixesAnswer proofs.edges_pass.Reads.Post
edges_pass κs a r s e f = alike

pub beside-passes : FixesAnswer proofs.beside_passes.Reads.Post
beside-passes κs a r s e f = alike
