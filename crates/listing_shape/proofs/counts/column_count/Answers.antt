use Prim.Native.Nat.{ℕ, ◌+◌, ◌*◌, max}
use lib.ListN.{get_or}
use borrow.Author.Rules.{rules}
use mathlib.Core.Path.{◌≡◌, ap, ◌∙◌}
use native.Mathlib.Nat.{le_antisymm}
use Rattle.listing_shape.specs.FileBoard.{count_over}
use Rattle.listing_shape.specs.Counts.{cell_in}
use Rattle.listing_shape.proofs.CountLaws.{count_none, count-more, count-above, within, over}
use native.Mathlib.Omega.{arith}
use Rattle.listing_shape.proofs.counts.column_count.Goals as goal

pub loop-i-init : goal.loop-i-init
loop-i-init c = (count_none _, omega arith)

pub returns-then-limit-number : goal.returns-then-limit-number
returns-then-limit-number c = let l = c.loop-i in
    over _ _ _ c.if-limit-number.true (count-above (cell_in c.args.cells.now c.args.column) c.args.count l.i c.loop-i-test.true)

pub loop-i-preserved : goal.loop-i-preserved
loop-i-preserved c = let l = c.loop-i in
    let larger : c.max-most.result ≡ max l.most (get_or c.args.cells.now (l.i * 7 + c.args.column) 0 + 1) = search rules in
    (larger ∙ count-more (cell_in c.args.cells.now c.args.column) l.i l.most l.invariant.0, omega (arith, larger, l.invariant.1, c.if-limit-number.false))

pub returns : goal.returns
returns c = let l = c.loop-i in
    within _ _ _ (l.invariant.0 ∙ ap (λ (k : ℕ). count_over k (cell_in c.args.cells.now c.args.column)) (le_antisymm l.auto.i-end c.loop-i-test.false)) l.invariant.1
