-- No second result meets a contract of this crate. Assumes nothing.
use mathlib.Core.Path.{ap}
use Rattle.basics.specs.Promises.{Fixes, ◌&◌}
use Rattle.basics.proofs.Promises.{alike}
use Rattle.assignment_path.proofs.entry

-- the answer, `out_rows` and `out_values`
pub search_path : Fixes entry.search_path.Reads.Post λ κs r e. r & e.1.1.1.1.1.1.1.1.0.now & e.1.1.1.1.1.1.1.1.1.0.now
search_path κs a r s e f p q = ap (λ x. x.answer & x.rows & x.values) (alike p q)

-- the answer, `out_rows` and `out_values`
pub assignment_move_for_entity_value : Fixes entry.assignment_move_for_entity_value.Reads.Post λ κs r e. r & e.1.1.1.1.1.1.1.1.0.now & e.1.1.1.1.1.1.1.1.1.0.now
assignment_move_for_entity_value κs a r s e f p q = ap (λ x. x.answer & x.rows & x.values) (alike p q)
