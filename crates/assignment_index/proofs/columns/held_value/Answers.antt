-- `assignment_index::columns::held_value` meets its contract. Assumes nothing.
use Rattle.assignment_index.proofs.Recorded.{held-is}
use borrow.Author.Rules.{rules}
use Rattle.assignment_index.proofs.columns.held_value.Goals as goal

pub returns : goal.returns
returns c = search (rules, held-is)
