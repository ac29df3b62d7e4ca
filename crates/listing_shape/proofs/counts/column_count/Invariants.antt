-- `listing_shape::counts::column_count` meets its contract. The loop's invariant: the count of the numbers passed, which is no more than the limit. Assumes nothing.
use Prim.Native.Nat.{◌≤◌}
use mathlib.Core.Path.{◌≡◌}
use Rattle.listing_shape.specs.FileBoard.{count_over}
use Rattle.listing_shape.specs.Counts.{cell_in}
use Rattle.listing_shape.proofs.counts.column_count.Given as goal

abbrev pub invariant-loop-i : goal.invariant-loop-i
invariant-loop-i l = (l.most ≡ count_over l.i (cell_in l.cells l.column)) × (l.most ≤ l.limit)
