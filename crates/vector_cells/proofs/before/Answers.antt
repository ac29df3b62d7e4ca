-- `vector_cells::before` meets its contract. Assumes nothing.
use borrow.Author.Rules.{rules}
use Rattle.vector_cells.specs.Cells.{before_at}
use Rattle.vector_cells.proofs.before.Goals as goal

pub returns : goal.returns
unfolding before_at
returns c = search rules
