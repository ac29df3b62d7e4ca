-- `vector_boards::marks_and_ranks::set_mark` meets its contract. Assumes nothing.
use Rattle.vector_cells.proofs.CellLaws.{not_set}
use borrow.Author.Rules.{rules}
use Rattle.vector_boards.proofs.marks_and_ranks.set_mark.Goals as goal

pub returns-then-at-marks : goal.returns-then-at-marks
returns-then-at-marks c = cc

pub returns-else-at-marks : goal.returns-else-at-marks
returns-else-at-marks c = search (rules, not_set)
