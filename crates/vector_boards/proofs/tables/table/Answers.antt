use Rattle.vector_boards.proofs.TableLaws.{no_segment, no_segment_in, one_segment, one_segment_in, whole_table}
use borrow.Author.Rules.{rules}
use Rattle.vector_boards.proofs.tables.table.Goals as goal

pub loop-i-init : goal.loop-i-init
loop-i-init c = search (rules, no_segment, no_segment_in)

pub loop-i-preserved : goal.loop-i-preserved
loop-i-preserved c = let words = c.args.words.now in let l = c.loop-i in let s = c.segment-filled.ensures in (one_segment words _ l.i l.filled _ l.invariant.0 s.0, one_segment_in words _ l.i l.filled c.segment-filled.result l.invariant.0 _ l.cells _ l.invariant.1 s.1)

pub returns : goal.returns
returns c = let a = c.args in let l = c.loop-i in whole_table a.words.now a.at _ _ l.i _ a.cells.now _ c.ahead.ensures c.word-segments.ensures l.auto.i-end c.loop-i-test.false l.invariant.0 l.invariant.1
