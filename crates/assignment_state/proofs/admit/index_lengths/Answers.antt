-- `assignment_state::admit::index_lengths` meets its contract. Assumes nothing.
use Rattle.assignment_state.proofs.AdmitLaws.{too_many_rows, few_enough}
use Rattle.assignment_state.proofs.admit.index_lengths.Goals as goal

pub returns-then-rows-gt128 : goal.returns-then-rows-gt128
returns-then-rows-gt128 c = search too_many_rows

pub returns : goal.returns
returns c = few_enough _ _ _ c.if-rows-gt128.false
