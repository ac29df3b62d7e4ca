-- `vector_boards::marks_and_ranks::to_marks` meets its contract. The loop's invariant: that the cells before are set. Assumes nothing.
use Prim.Native.Nat.{ℕ}
use mathlib.Core.Path.{◌≡◌}
use Rattle.vector_cells.specs.Cells.{set_below}
use Rattle.vector_boards.specs.Tables.{mark_at}
use Rattle.vector_boards.proofs.marks_and_ranks.to_marks.Given as goal

abbrev pub invariant-loop-i : goal.invariant-loop-i
invariant-loop-i l = l.marks ≡ set_below (λ (k : ℕ). k) (mark_at l.cells) l.i l.initial.marks
