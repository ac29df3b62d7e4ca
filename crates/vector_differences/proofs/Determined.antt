-- No second result meets a contract of this crate. Assumes nothing.
use Rattle.basics.specs.Promises.{FixesAnswer}
use Rattle.basics.proofs.Promises.{alike}
use Rattle.vector_differences.proofs

pub same-cell : FixesAnswer proofs.same_cell.Reads.Post
same-cell κs a r s e f = alike

pub same_number : FixesAnswer proofs.same_number.Reads.Post
same_number κs a r s e f = alike

pub same-cells : FixesAnswer proofs.same_cells.Reads.Post
same-cells κs a r s e f = alike
