-- `vector_boards::board::read_lent` meets its contract. Assumes nothing.
use Rattle.vector_boards.proofs.LentLaws.{word_ahead, byte_ahead, lent_read}
use Rattle.vector_boards.proofs.board.read_lent.Goals as goal

pub returns : goal.returns
returns c = let a = c.args in lent_read a.words.now a.at _ _ _ _ _ _ _ _ _ c.word.ensures (word_ahead a.words.now a.at 1 _ _ c.ahead.ensures c.word-2.ensures) (byte_ahead a.words.now a.at 2 _ _ _ c.ahead-2.ensures c.word-3.ensures c.byte.ensures) (word_ahead a.words.now a.at 3 _ _ c.ahead-3.ensures c.word-4.ensures) (word_ahead a.words.now a.at 4 _ _ c.ahead-4.ensures c.word-5.ensures) (word_ahead a.words.now a.at 5 _ _ c.ahead-5.ensures c.word-6.ensures) (word_ahead a.words.now a.at 6 _ _ c.ahead-6.ensures c.word-7.ensures) (word_ahead a.words.now a.at 7 _ _ c.ahead-7.ensures c.word-8.ensures) (word_ahead a.words.now a.at 8 _ _ c.ahead-8.ensures c.word-9.ensures)
