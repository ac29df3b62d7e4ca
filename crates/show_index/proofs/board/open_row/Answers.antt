use Rattle.show_index.proofs.PackLaws.{no_cell, no_key, next_cell, next_key, row_packed}
use native.Mathlib.Omega.{arith}
use lib.ListN.{length-set}
use borrow.Author.Rules.{rules}
use Rattle.show_index.proofs.board.open_row.Goals as goal

pub bounds-marks-counts : goal.bounds-marks-counts
bounds-marks-counts c = simp length-set (omega arith)

pub loop-value-init : goal.loop-value-init
loop-value-init c = search (rules, no_cell, no_key)

pub open_cell-requires : goal.open_cell-requires
open_cell-requires c = let kept = simp length-set at c.loop-value.auto.marks in search rules

pub loop-value-preserved : goal.loop-value-preserved
loop-value-preserved c = let row = c.args.row in let l = c.loop-value in let o = c.open_cell.ensures in (next_cell row _ l.value l.marks _ l.invariant.0 o.0, next_key row _ l.value l.keys _ l.invariant.1 o.1)

pub returns : goal.returns
returns c = let a = c.args in let l = c.loop-value in row_packed a.row l.value _ _ a.marks.now a.keys.now _ _ c.may_empty_start-may_empty.ensures c.counts_start-counts.ensures l.auto.value-end c.loop-value-test.false l.invariant.0 l.invariant.1
