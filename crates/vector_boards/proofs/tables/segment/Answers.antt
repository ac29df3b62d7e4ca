-- `vector_boards::tables::segment` meets its contract. Assumes nothing.
use Rattle.vector_boards.proofs.TableLaws.{copied_segment, picked_segment}
use Rattle.vector_boards.proofs.tables.segment.Goals as goal

pub returns-then-word-eq0 : goal.returns-then-word-eq0
returns-then-word-eq0 c = let a = c.args in copied_segment a.words.now a.filled _ _ _ _ _ c.word-count.ensures c.ahead-behind.ensures c.ahead-all.ensures c.ahead.ensures c.word.ensures _ a.cells.now _ c.if-word-eq0.true c.ahead-then-word-eq0.ensures c.copy.ensures

pub returns : goal.returns
returns c = let a = c.args in picked_segment a.words.now a.filled _ _ _ _ _ c.word-count.ensures c.ahead-behind.ensures c.ahead-all.ensures c.ahead.ensures c.word.ensures _ _ _ _ a.cells.now _ c.if-word-eq0.false c.ahead-2.ensures c.word-colours.ensures c.ahead-3.ensures c.ahead-4.ensures c.pick.ensures
