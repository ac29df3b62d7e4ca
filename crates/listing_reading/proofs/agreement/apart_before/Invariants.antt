-- `listing_reading::agreement::apart_before` meets its contract. The loop's invariant: none of the records passed clashes with this one. Assumes nothing.
use Prim.Native.Nat.{ℕ}
use mathlib.Core.Path.{◌≡◌}
use mathlib.Core.Bool.{true, not}
use Rattle.basics.specs.Tests.{all_below}
use Rattle.listing_format.specs.Format.{clash}
use Rattle.listing_reading.specs.Cells.{record_in}
use Rattle.listing_reading.proofs.agreement.apart_before.Given as goal

abbrev pub invariant-loop-i : goal.invariant-loop-i
invariant-loop-i l = all_below l.i (λ (k : ℕ). not (clash (record_in l.cells k) (record_in l.cells l.place))) ≡ true
