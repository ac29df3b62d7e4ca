-- `decimals::writing::digit_count` meets its contract. The loop's invariant: the digits counted and those of the rest are all. Assumes nothing.
use Prim.Native.Nat.{◌≤◌, ◌+◌}
use mathlib.Core.Path.{◌≡◌}
use lib.ListN.{length}
use Rattle.decimals.specs.Decimals.{digits}
use Rattle.decimals.proofs.writing.digit_count.Given as goal

abbrev pub invariant-loop-rest : goal.invariant-loop-rest
invariant-loop-rest l = (l.count + length (digits l.rest) ≡ length (digits l.number) + 1) × (l.count + l.rest ≤ l.number + 1)

abbrev pub decreases-loop-rest : goal.decreases-loop-rest
decreases-loop-rest l = l.rest
