-- `vector_boards::tables::table` meets its contract. The loop's invariant: what the segments before come to. Assumes nothing.
use Rattle.vector_boards.specs.Tables.{behind_segments, segments_in}
use mathlib.Core.Path.{◌≡◌}
use Rattle.vector_boards.proofs.tables.table.Given as goal

abbrev pub invariant-loop-i : goal.invariant-loop-i
invariant-loop-i l = (l.filled ≡ behind_segments l.words l.initial.filled l.i) × (l.cells ≡ segments_in l.words l.initial.filled l.i l.initial.cells)
