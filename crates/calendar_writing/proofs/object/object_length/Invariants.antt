-- `calendar_writing::object::object_length` meets its contract. The loop's invariant: the octets counted and those of the rows left are all. Assumes nothing.
use Prim.Native.Nat.{◌≤◌, ◌+◌, ◌*◌}
use mathlib.Core.Path.{◌≡◌}
use lib.ListN.{drop}
use Rattle.calendar_format.specs.Slices.{events_long, object_long}
use Rattle.calendar_writing.proofs.object.object_length.Given as goal

abbrev pub invariant-loop-i : goal.invariant-loop-i
invariant-loop-i l = (l.long + events_long (drop l.i l.rows) ≡ object_long l.rows) × (l.long ≤ 78 + l.i * 131)
