-- `vector_answers::answers::same_told` meets its contract. The loop's invariant: all before have passed. Assumes nothing.
use mathlib.Core.Path.{◌≡◌}
use mathlib.Core.Bool.{true}
use Rattle.basics.specs.Tests.{all_below}
use Rattle.vector_answers.specs.Answers.{same_told_at}
use Rattle.vector_answers.proofs.answers.same_told.Given as goal

abbrev pub invariant-loop-i : goal.invariant-loop-i
invariant-loop-i l = all_below l.i (same_told_at l.expected l.told) ≡ true
