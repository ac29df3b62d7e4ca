-- `driver_calendar::gather::gather` meets its contract. The loop's invariant: the duties of the rows passed stand in front. Assumes nothing.
use Prim.Native.Nat.{◌≤◌, ◌-◌}
use mathlib.Core.Path.{◌≡◌}
use lib.ListN.{length}
use Rattle.calendar_format.specs.Slices.{InFronts}
use Rattle.driver_calendar.specs.Recorded.{recorded_duties}
use Rattle.driver_calendar.proofs.gather.gather.Given as goal

abbrev pub invariant-loop-row : goal.invariant-loop-row
invariant-loop-row l = (l.count ≤ l.row) × InFronts (recorded_duties l.rows l.records l.driver l.row) l.out_rows l.out_days l.count
