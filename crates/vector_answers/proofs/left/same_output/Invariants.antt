-- `vector_answers::left::same_output` meets its contract. The loop's invariant: all before have passed. Assumes nothing.
use mathlib.Core.Path.{◌≡◌}
use mathlib.Core.Bool.{true}
use Rattle.basics.specs.Tests.{all_below}
use Rattle.vector_answers.specs.Answers.{same_left}
use Rattle.vector_answers.proofs.left.same_output.Given as goal

abbrev pub invariant-loop-i : goal.invariant-loop-i
invariant-loop-i l = all_below l.i (same_left l.front l.seen) ≡ true
