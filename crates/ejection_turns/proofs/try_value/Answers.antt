-- `ejection_turns::try_value` meets its contract: the reinsertion test is asked of the list with the value in it. Assumes nothing.
use mathlib.Core.Path.{refl}
use Rattle.ejection_turns.specs.Ejection.{allowed_at}
use Rattle.ejection_turns.proofs.try_value.Goals as goal

pub returns : goal.returns
unfolding allowed_at
returns c = record { value = c.reinsert_test.ensures; values_value = refl }
