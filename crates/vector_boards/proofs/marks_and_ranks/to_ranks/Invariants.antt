-- `vector_boards::marks_and_ranks::to_ranks` meets its contract. The loop's invariant: that the cells before are set. Assumes nothing.
use Prim.Native.Nat.{ℕ}
use mathlib.Core.Path.{◌≡◌}
use Rattle.vector_cells.specs.Cells.{set_below}
use Rattle.vector_boards.specs.Tables.{rank_at}
use Rattle.vector_boards.proofs.marks_and_ranks.to_ranks.Given as goal

abbrev pub invariant-loop-i : goal.invariant-loop-i
invariant-loop-i l = l.ranks ≡ set_below (λ (k : ℕ). k) (rank_at l.cells) l.i l.initial.ranks
