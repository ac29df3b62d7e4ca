-- `sequence_steps::sequence_below` meets its contract. Assumes nothing.
use Rattle.sequence_steps.proofs.StepLaws.{below_is}
use Rattle.sequence_steps.proofs.sequence_below.Goals as goal

pub returns : goal.returns
returns c = λ B. below_is B _ _ c.checked_sub.ensures
