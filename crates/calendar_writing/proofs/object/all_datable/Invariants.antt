-- `calendar_writing::object::all_datable` meets its contract. The loop's invariant: every day so far can be written. Assumes nothing.
use Prim.Native.Nat.{ℕ}
use mathlib.Core.Path.{◌≡◌}
use mathlib.Core.Bool.{true}
use lib.Dec.{leb}
use lib.ListN.{get_or}
use Rattle.basics.specs.Tests.{all_below}
use Rattle.civil_dates.specs.Dates.{last_day}
use Rattle.calendar_writing.proofs.object.all_datable.Given as goal

abbrev pub invariant-loop-day : goal.invariant-loop-day
invariant-loop-day l = all_below l.day-index (λ (j : ℕ). leb (get_or l.days j 0) last_day) ≡ true
