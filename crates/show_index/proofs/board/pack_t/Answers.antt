use Rattle.show_index.proofs.PackLaws.{no_row, no_row-keys, next_row, next_row-keys, all_packed}
use mathlib.Core.Path.{◌≡◌, ap}
use native.Mathlib.Omega.{arith}
use lib.ListN.{length-set}
use lib.ListN.{length}
use borrow.Author.Rules.{rules}
use Rattle.show_index.proofs.board.pack_t.Goals as goal

pub bounds-marks-required : goal.bounds-marks-required
bounds-marks-required c = let m : length c.args.marks.now ≡ 328 = ap length c.requires.0 in search rules

pub bounds-marks-required-2 : goal.bounds-marks-required-2
bounds-marks-required-2 c = let m : length c.args.marks.now ≡ 328 = ap length c.requires.0 in simp length-set (omega arith)

pub loop-row-init : goal.loop-row-init
loop-row-init c = search (rules, no_row, no_row-keys)

pub open_row-requires : goal.open_row-requires
open_row-requires c = let m : length c.args.marks.now ≡ 328 = ap length c.requires.0 in let k : length c.args.keys.now ≡ 24 = ap length c.requires.1 in let kept = simp length-set at c.loop-row.auto.marks in search rules

pub loop-row-preserved : goal.loop-row-preserved
loop-row-preserved c = let l = c.loop-row in let o = c.open_row.ensures in (next_row _ l.row l.marks _ l.invariant.0 o.0, next_row-keys _ l.row l.keys _ l.invariant.1 o.1)

pub returns : goal.returns
returns c = let l = c.loop-row in all_packed l.row _ c.args.marks.now c.args.keys.now _ _ c.requires.0 c.requires.1 c.required_start-required.ensures l.auto.row-end c.loop-row-test.false l.invariant.0 l.invariant.1
