-- `vector_boards::tables::pick` meets its contract. The loop's invariant: that the cells before are set. Assumes nothing.
use Rattle.vector_cells.specs.Cells.{set_below}
use Rattle.vector_boards.specs.Tables.{picked_at, seed_after}
use Rattle.vector_words.specs.Words.{ahead}
use mathlib.Core.Path.{◌≡◌}
use Rattle.vector_boards.proofs.tables.pick.Given as goal

abbrev pub invariant-loop-i : goal.invariant-loop-i
invariant-loop-i l = (l.seed ≡ seed_after l.initial.seed l.i) × (l.cells ≡ set_below (ahead l.from) (picked_at l.words l.at) l.i l.initial.cells)
