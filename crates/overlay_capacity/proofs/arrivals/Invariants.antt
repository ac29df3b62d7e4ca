-- `overlay_capacity::arrivals` meets its contract. The loop's invariant: the number is the count among those before. Assumes nothing.
use Prim.Native.Nat.{◌≤◌}
use mathlib.Core.Path.{◌≡◌}
use Rattle.basics.specs.Tests.{count_below}
use Rattle.assignment_tables.specs.Tables.{capacity_at}
use Rattle.overlay_capacity.specs.Capacity.{arrives_at}
use Rattle.overlay_capacity.proofs.arrivals.Given as goal

abbrev pub invariant-loop-i : goal.invariant-loop-i
invariant-loop-i l = (l.count ≡ count_below l.i (arrives_at (capacity_at l.tables.shape l.tables.marks.now l.tables.keys.now) l.list_rows l.list_values l.key)) × (l.count ≤ l.i)
