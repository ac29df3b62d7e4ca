-- `assignment_tables::lookup::may_be_empty` meets its contract. Assumes nothing.
use Rattle.assignment_tables.proofs.lookup.may_be_empty.Goals as goal

pub returns : goal.returns
returns c = cc
