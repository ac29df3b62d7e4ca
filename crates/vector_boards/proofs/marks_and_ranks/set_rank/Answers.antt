-- `vector_boards::marks_and_ranks::set_rank` meets its contract. Assumes nothing.
use Rattle.vector_cells.proofs.CellLaws.{not_set}
use Rattle.vector_boards.proofs.TableLaws.{rank_set}
use borrow.Author.Rules.{rules}
use Rattle.vector_boards.proofs.marks_and_ranks.set_rank.Goals as goal

pub returns-then-at-ranks : goal.returns-then-at-ranks
returns-then-at-ranks c = search (rules, rank_set)

pub returns-else-at-ranks : goal.returns-else-at-ranks
returns-else-at-ranks c = search (rules, not_set)
