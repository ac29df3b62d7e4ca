-- `vector_boards::tables::next_seed` meets its contract. Assumes nothing.
use Rattle.vector_boards.specs.Tables.{next_seed}
use borrow.Author.Rules.{rules}
use Rattle.vector_boards.proofs.tables.next_seed.Goals as goal

pub returns : goal.returns
unfolding next_seed
returns c = search rules
