-- `overlay_edges::any_leaves` meets its contract. The loop's invariant: all before have passed. Assumes nothing.
use Prim.Native.Nat.{◌≤◌}
use mathlib.Core.Path.{◌≡◌}
use mathlib.Core.Bool.{true}
use lib.ListN.{length}
use Rattle.basics.specs.Tests.{all_below}
use Rattle.assignment_tables.specs.Tables.{sequence_at}
use Rattle.assignment_index.specs.Index.{roster_in}
use Rattle.overlay_edges.specs.Edges.{stays_off}
use Rattle.overlay_edges.proofs.any_leaves.Given as goal

abbrev pub invariant-loop-row : goal.invariant-loop-row
invariant-loop-row l = (l.row-index ≤ length l.list_rows) × (all_below l.row-index (stays_off (sequence_at l.tables.shape l.tables.marks.now l.tables.keys.now) (roster_in l.tables.shape.rows l.records) l.list_rows l.value l.sequence) ≡ true)
