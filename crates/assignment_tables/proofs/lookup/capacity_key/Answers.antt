-- `assignment_tables::lookup::capacity_key` meets its contract. Assumes nothing.
use Rattle.assignment_tables.proofs.lookup.capacity_key.Goals as goal

pub returns : goal.returns
returns c = cc
