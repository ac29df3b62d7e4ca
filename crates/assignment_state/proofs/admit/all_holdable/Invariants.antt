-- `assignment_state::admit::all_holdable` meets its contract. The loop's invariant: all before have passed. Assumes nothing.
use Prim.Native.Nat.{ℕ}
use mathlib.Core.Path.{◌≡◌}
use mathlib.Core.Bool.{true}
use lib.ListN.{get_or}
use Rattle.basics.specs.Tests.{all_below}
use Rattle.assignment_state.specs.Admission.{holdable}
use Rattle.assignment_state.proofs.admit.all_holdable.Given as goal

abbrev pub invariant-loop-value : goal.invariant-loop-value
invariant-loop-value l = all_below l.value-index (λ (r : ℕ). holdable l.shape (get_or l.values r 0)) ≡ true
