-- No second result meets a contract of this crate. Assumes nothing.
use Rattle.basics.specs.Promises.{Fixes, FixesAnswer}
use Rattle.basics.proofs.Promises.{alike}
use Rattle.vector_cells.proofs

pub set-cell : Fixes proofs.set_cell.Reads.Post λ κs r e. e.0.now
set-cell κs a r s e f = alike

pub copy : Fixes proofs.copy.Reads.Post λ κs r e. e.1.1.0.now
copy κs a r s e f = alike

pub before : FixesAnswer proofs.before.Reads.Post
before κs a r s e f = alike

pub fill_before : Fixes proofs.fill_before.Reads.Post λ κs r e. e.0.now
fill_before κs a r s e f = alike

pub output : FixesAnswer proofs.output.Reads.Post
output κs a r s e f = alike

pub byte : FixesAnswer proofs.byte.Reads.Post
byte κs a r s e f = alike
