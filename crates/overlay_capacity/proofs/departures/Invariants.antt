-- `overlay_capacity::departures` meets its contract. The loop's invariant: the number is the count among those before. Assumes nothing.
use Prim.Native.Nat.{◌≤◌}
use mathlib.Core.Path.{◌≡◌}
use Rattle.basics.specs.Tests.{count_below}
use Rattle.overlay_capacity.specs.Capacity.{leaves_at}
use Rattle.overlay_capacity.proofs.departures.Given as goal

abbrev pub invariant-loop-i : goal.invariant-loop-i
invariant-loop-i l = (l.count ≡ count_below l.i (leaves_at l.rows l.records l.list_rows l.key)) × (l.count ≤ l.i)
