-- `assignment_tables::lookup::assignment_edge_allowed` meets its contract. Assumes nothing.
use Rattle.assignment_tables.proofs.lookup.assignment_edge_allowed.Goals as goal

pub returns : goal.returns
returns c = cc
