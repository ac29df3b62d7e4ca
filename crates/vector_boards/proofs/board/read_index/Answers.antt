-- `vector_boards::board::read_index` meets its contract. Assumes nothing.
use Rattle.vector_boards.proofs.LentLaws.{index_read}
use Rattle.vector_boards.proofs.board.read_index.Goals as goal

pub returns : goal.returns
returns c = let a = c.args in index_read a.words.now a.at _ _ a.records.now _ a.members.now _ a.roster.now _ c.table-recorded.ensures c.table-listed.ensures c.table.ensures.1
