-- `vector_cells::fill_before` meets its contract. The loop's invariant: that the cells before are set. Assumes nothing.
use Prim.Native.Nat.{ℕ}
use Rattle.vector_cells.specs.Cells.{set_below}
use Rattle.vector_cells.specs.Cells.{before_at}
use mathlib.Core.Path.{◌≡◌}
use Rattle.vector_cells.proofs.fill_before.Given as goal

abbrev pub invariant-loop-i : goal.invariant-loop-i
invariant-loop-i l = l.cells ≡ set_below (λ (k : ℕ). k) before_at l.i l.initial.cells
