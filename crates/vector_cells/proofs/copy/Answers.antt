use Rattle.vector_cells.proofs.CellLaws.{none_set, one_set, all_set, copied_word}
use Rattle.vector_cells.specs.Cells.{copied_at}
use Rattle.vector_words.specs.Words.{ahead}
use borrow.Author.Rules.{rules}
use Rattle.vector_cells.proofs.copy.Goals as goal

pub loop-i-init : goal.loop-i-init
loop-i-init c = search (rules, none_set)

pub loop-i-preserved : goal.loop-i-preserved
loop-i-preserved c = let a = c.args in let l = c.loop-i in one_set (ahead a.from) (copied_at a.words.now a.at) l.i _ _ _ l.cells _ l.invariant c.ahead.ensures (copied_word a.words.now a.at l.i _ _ c.ahead-in-loop-i.ensures c.word.ensures) c.set_cell.ensures

pub returns : goal.returns
returns c = search (rules, all_set)
