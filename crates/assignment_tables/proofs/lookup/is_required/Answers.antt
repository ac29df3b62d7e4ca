-- `assignment_tables::lookup::is_required` meets its contract. Assumes nothing.
use Rattle.assignment_tables.proofs.lookup.is_required.Goals as goal

pub returns : goal.returns
returns c = cc
