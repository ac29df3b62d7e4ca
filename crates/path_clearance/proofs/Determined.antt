-- No second result meets a contract of this crate. Assumes nothing.
use Rattle.basics.specs.Promises.{FixesAnswer}
use Rattle.basics.proofs.Promises.{alike}
use Rattle.path_clearance.proofs.arrivals
use Rattle.path_clearance.proofs.sides

pub arrivals_clear : FixesAnswer arrivals.arrivals_clear.Reads.Post
arrivals_clear κs a r s e f = alike

pub sides_refuse : FixesAnswer sides.sides_refuse.Reads.Post
sides_refuse κs a r s e f = alike
