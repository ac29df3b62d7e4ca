-- `vector_cells::copy` meets its contract. The loop's invariant: that the cells before are set. Assumes nothing.
use Rattle.vector_cells.specs.Cells.{set_below, copied_at}
use Rattle.vector_words.specs.Words.{ahead}
use mathlib.Core.Path.{◌≡◌}
use Rattle.vector_cells.proofs.copy.Given as goal

abbrev pub invariant-loop-i : goal.invariant-loop-i
invariant-loop-i l = l.cells ≡ set_below (ahead l.from) (copied_at l.words l.at) l.i l.initial.cells
