-- No second result meets a contract of this crate. Assumes nothing.
use mathlib.Core.Path.{ap}
use Rattle.basics.specs.Promises.{Fixes, ◌&◌}
use Rattle.basics.proofs.Promises.{alike}
use Rattle.assignment_cycle.proofs.rematch

-- the answer, `out_rows` and `out_values`
pub next_move : Fixes rematch.next_move.Reads.Post λ κs r e. r & e.1.1.1.1.0.now & e.1.1.1.1.1.0.now
next_move κs a r s e f p q = ap (λ x. x.step & x.rows & x.values) (alike p q)

-- the answer, `out_rows` and `out_values`
pub next_augmenting_rematch : Fixes rematch.next_augmenting_rematch.Reads.Post λ κs r e. r & e.1.1.1.1.0.now & e.1.1.1.1.1.0.now
next_augmenting_rematch κs a r s e f p q = ap (λ x. x.step & x.rows & x.values) (alike p q)
