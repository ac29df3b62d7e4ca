-- `calendar_reading::octets::copy_octets` meets its contract. The loop's invariant: so many octets are copied, and the others begin at the place. Assumes nothing.
use Prim.Native.Nat.{◌≤◌}
use lib.ListN.{length}
use Rattle.calendar_reading.specs.Places.{from}
use Rattle.calendar_reading.proofs.TextLaws.{Copying}
use Rattle.calendar_reading.proofs.octets.copy_octets.Given as goal

abbrev pub invariant-loop-i : goal.invariant-loop-i
invariant-loop-i l = (l.place ≤ length l.bytes) × Copying (from l.bytes l.at) (length l.initial.copy) l.copy l.i (from l.bytes l.place)
