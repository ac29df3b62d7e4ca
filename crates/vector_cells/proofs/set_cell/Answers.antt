-- `vector_cells::set_cell` meets its contract. Assumes nothing.
use Rattle.vector_cells.proofs.CellLaws.{not_set}
use borrow.Author.Rules.{rules}
use Rattle.vector_cells.proofs.set_cell.Goals as goal

pub returns-else-at-cells : goal.returns-else-at-cells
returns-else-at-cells c = search (rules, not_set)
