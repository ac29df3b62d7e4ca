-- `assignment_index::columns::value_of` meets its contract: past the rows the roster says empty. Assumes nothing.
use borrow.Author.Rules.{rules}
use Rattle.assignment_index.proofs.Recorded.{nothing-held}
use Rattle.assignment_index.proofs.columns.value_of.Goals as goal

pub returns : goal.returns
returns c = search (rules, nothing-held)
