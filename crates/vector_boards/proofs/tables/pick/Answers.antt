use Rattle.vector_cells.proofs.CellLaws.{none_set, one_set, all_set}
use Rattle.vector_boards.proofs.TableLaws.{picked_word, first_seed, another_seed}
use Rattle.vector_boards.specs.Tables.{picked_at}
use Rattle.vector_words.specs.Words.{ahead}
use borrow.Author.Rules.{rules}
use Rattle.vector_boards.proofs.tables.pick.Goals as goal

pub loop-i-init : goal.loop-i-init
loop-i-init c = search (rules, none_set, first_seed)

pub loop-i-preserved : goal.loop-i-preserved
loop-i-preserved c = let a = c.args in let l = c.loop-i in let seed = l.invariant.0 in let next = c.next_seed-seed.ensures in (another_seed _ l.seed _ l.i seed next, one_set (ahead a.from) (picked_at a.words.now a.at) l.i _ _ _ l.cells _ l.invariant.1 c.ahead-in-loop-i.ensures (picked_word a.words.now a.at l.i _ _ _ l.seed _ _ _ _ _ c.word-seed.ensures c.ahead.ensures c.word-colours.ensures seed next c.colour.ensures c.ahead-in-loop-i-2.ensures c.ahead-in-loop-i-3.ensures c.word.ensures) c.set_cell.ensures)

pub returns : goal.returns
returns c = search (rules, all_set)
