-- `assignment_tables::lookup::sequence_key` meets its contract. Assumes nothing.
use Rattle.assignment_tables.proofs.lookup.sequence_key.Goals as goal

pub returns : goal.returns
returns c = cc
