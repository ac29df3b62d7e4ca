-- `overlay_capacity::is_left` meets its contract. The loop's invariant: none of those before leaves the key. Assumes nothing.
use mathlib.Core.Path.{◌≡◌}
use Rattle.basics.specs.Tests.{count_below}
use Rattle.overlay_capacity.specs.Capacity.{leaves_at}
use Rattle.overlay_capacity.proofs.is_left.Given as goal

abbrev pub invariant-loop-i : goal.invariant-loop-i
invariant-loop-i l = 0 ≡ count_below l.i (leaves_at l.rows l.records l.list_rows l.key)
