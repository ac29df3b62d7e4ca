-- No second result meets a contract of this crate. Assumes nothing.
use mathlib.Core.Path.{ap}
use Rattle.basics.specs.Promises.{Fixes, ◌&◌}
use Rattle.basics.proofs.Promises.{alike}
use Rattle.walk_entry.proofs

-- the answer, `out_rows`, `out_values` and `out_lengths`
pub walk_augmenting_rematch : Fixes proofs.walk_augmenting_rematch.Reads.Post λ κs r e. r & e.1.1.1.1.0.now & e.1.1.1.1.1.0.now & e.1.1.1.1.1.1.0.now
walk_augmenting_rematch κs a r s e f p q = ap (λ x. x.walk & x.rows & x.values & x.lengths) (alike p q)
