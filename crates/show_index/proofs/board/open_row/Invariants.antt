-- `show_index::board::open_row` meets its contract. The loop's invariant: what is packed so far. Assumes nothing.
use Rattle.show_index.specs.Packed.{cells_marks, cells_keys}
use mathlib.Core.Path.{◌≡◌}
use Rattle.show_index.proofs.board.open_row.Given as goal

abbrev pub invariant-loop-value : goal.invariant-loop-value
invariant-loop-value l = (l.marks ≡ cells_marks l.row l.value l.initial.marks) × (l.keys ≡ cells_keys l.row l.value l.initial.keys)
