-- `vector_boards::tables::colour` meets its contract. Assumes nothing.
use Rattle.vector_boards.proofs.TableLaws.{no_colour, one_colour}
use borrow.Author.Rules.{rules}
use Rattle.vector_boards.proofs.tables.colour.Goals as goal

pub returns-then-colours-eq0 : goal.returns-then-colours-eq0
returns-then-colours-eq0 c = search (rules, no_colour)

pub returns : goal.returns
returns c = search (rules, one_colour)
