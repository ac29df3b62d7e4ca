-- `vector_boards::board::read_tables` meets its contract. Assumes nothing.
use Rattle.vector_boards.proofs.LentLaws.{tables_read}
use Rattle.vector_boards.proofs.board.read_tables.Goals as goal

pub returns : goal.returns
returns c = let a = c.args in tables_read a.words.now a.at _ _ _ a.room.now _ _ a.marks.now _ a.keys.now _ a.ranks.now _ c.table-marked.ensures c.to_marks.ensures c.table-keyed.ensures c.table-ranked.ensures c.to_ranks.ensures
