-- `table_refusals::lengths_fit` meets its contract. Assumes nothing.
use Rattle.assignment_tables.specs.Refusal.{lengths_fit}
use Rattle.table_refusals.proofs.lengths_fit.Goals as goal

pub returns : goal.returns
unfolding lengths_fit
returns c = cc
