use native.Mathlib.Omega.{arith}
use Prim.Native.Nat.{ℕ}
use Rattle.vector_cells.proofs.CellLaws.{none_set, one_set, all_set}
use Rattle.vector_cells.specs.Cells.{filled_before}
use Rattle.vector_cells.specs.Cells.{before_at}
use lib.ListN.{length}
use borrow.Author.Rules.{rules}
use Rattle.vector_cells.proofs.fill_before.Goals as goal

pub loop-i-init : goal.loop-i-init
loop-i-init c = search (rules, none_set)

pub loop-i-preserved : goal.loop-i-preserved
loop-i-preserved c = search (rules, one_set)

pub returns : goal.returns
unfolding filled_before
returns c = let l = c.loop-i in all_set (λ (k : ℕ). k) before_at (length c.args.cells.now) l.i _ _ (omega arith) (omega arith) l.invariant
