-- `overlay_pairs::pairs::stayers_pass` meets its contract. The loop's invariant: all before have passed. Assumes nothing.
use Prim.Native.Nat.{◌≤◌}
use mathlib.Core.Path.{◌≡◌}
use mathlib.Core.Bool.{true}
use lib.ListN.{length}
use Rattle.basics.specs.Tests.{all_below}
use Rattle.assignment_tables.specs.Tables.{edge_at}
use Rattle.overlay_pairs.specs.Pairs.{stayer_passes, pair_passes, Recalled}
use Rattle.overlay_pairs.proofs.pairs.stayers_pass.Given as goal

abbrev pub invariant-loop-other : goal.invariant-loop-other
invariant-loop-other l = (l.other-index ≤ length l.others) × ((all_below l.other-index (stayer_passes l.list_rows l.others (pair_passes (edge_at l.tables.shape l.tables.marks.now) l.right l.row)) ≡ true) × (Recalled l.tables.shape l.tables.marks.now l.judged × (length l.judged ≡ length l.initial.judged)))
