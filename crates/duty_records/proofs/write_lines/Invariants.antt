-- `duty_records::write_lines` meets its contract. The loop's invariant: writing the lines that are left comes to what is asked, and there is room for them. Assumes nothing.
use Prim.Native.Nat.{◌≤◌, ◌-◌, ◌+◌, ◌*◌}
use lib.ListN.{length, drop}
use Rattle.outputs.proofs.Writing.{Writing}
use Rattle.calendar_format.specs.Slices.{paired}
use Rattle.duty_records.specs.Records.{duty_lines}
use Rattle.duty_records.proofs.write_lines.Given as goal

abbrev pub invariant-loop-i : goal.invariant-loop-i
invariant-loop-i l = (l.next + 43 * (length l.rows - l.i) ≤ l.at + 43 * length l.rows) × Writing l.out l.next (duty_lines (paired (drop l.i l.rows) (drop l.i l.days))) l.initial.out l.at (duty_lines (paired l.rows l.days))
