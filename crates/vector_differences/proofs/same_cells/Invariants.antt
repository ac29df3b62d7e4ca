-- `vector_differences::same_cells` meets its contract. The loop's invariant: all before have passed. Assumes nothing.
use mathlib.Core.Path.{◌≡◌}
use mathlib.Core.Bool.{true}
use Rattle.basics.specs.Tests.{all_below}
use Rattle.vector_differences.specs.Sameness.{same_at}
use Rattle.vector_differences.proofs.same_cells.Given as goal

abbrev pub invariant-loop-i : goal.invariant-loop-i
invariant-loop-i l = all_below l.i (same_at l.expected l.seen) ≡ true
