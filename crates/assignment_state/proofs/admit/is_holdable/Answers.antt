-- `assignment_state::admit::is_holdable` meets its contract. Assumes nothing.
use Rattle.assignment_state.proofs.AdmitLaws.{holds-nothing, holds_something}
use Rattle.assignment_state.proofs.admit.is_holdable.Goals as goal

pub returns-then-value-eq-EMPTY : goal.returns-then-value-eq-EMPTY
returns-then-value-eq-EMPTY c = search holds-nothing

pub returns : goal.returns
returns c = search holds_something
