-- `calendar_reading::octets::past_folds` meets its contract. The loop's invariant: nothing but folds was passed. Assumes nothing.
use Prim.Native.Nat.{◌≤◌, ◌-◌}
use mathlib.Core.Path.{◌≡◌}
use lib.ListN.{length}
use Rattle.calendar_reading.specs.Places.{from}
use Rattle.calendar_reading.proofs.octets.past_folds.Given as goal

abbrev pub invariant-loop-place : goal.invariant-loop-place
invariant-loop-place l = (l.place ≤ length l.bytes) × (from l.bytes l.at ≡ from l.bytes l.place)

abbrev pub decreases-loop-place : goal.decreases-loop-place
decreases-loop-place l = length l.bytes - l.place
