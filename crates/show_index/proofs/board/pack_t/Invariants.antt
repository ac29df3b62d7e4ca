-- `show_index::board::pack_t` meets its contract. The loop's invariant: what is packed so far. Assumes nothing.
use Rattle.show_index.specs.Packed.{rows_marks, rows_keys}
use mathlib.Core.Path.{◌≡◌}
use Rattle.show_index.proofs.board.pack_t.Given as goal

abbrev pub invariant-loop-row : goal.invariant-loop-row
invariant-loop-row l = (l.marks ≡ rows_marks l.row l.initial.marks) × (l.keys ≡ rows_keys l.row l.initial.keys)
