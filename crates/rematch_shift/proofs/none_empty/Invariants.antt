-- `rematch_shift::none_empty` meets its contract. The loop's invariant: none of the values passed is empty. Assumes nothing.
use mathlib.Core.Path.{◌≡◌}
use mathlib.Core.Bool.{true}
use Rattle.basics.specs.Tests.{all_below}
use Rattle.rematch_shift.proofs.ShiftLaws.{passes}
use Rattle.rematch_shift.proofs.none_empty.Given as goal

abbrev pub invariant-loop-value : goal.invariant-loop-value
invariant-loop-value l = all_below l.value-index (passes l.values) ≡ true
