-- `assignment_tables::lookup::entity_order_key` meets its contract. Assumes nothing.
use Rattle.assignment_tables.proofs.lookup.entity_order_key.Goals as goal

pub returns : goal.returns
returns c = cc
