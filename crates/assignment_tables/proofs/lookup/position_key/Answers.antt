-- `assignment_tables::lookup::position_key` meets its contract. Assumes nothing.
use Rattle.assignment_tables.proofs.lookup.position_key.Goals as goal

pub returns : goal.returns
returns c = cc
