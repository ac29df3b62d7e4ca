-- `engine::windows::turepawon_next_augmenting_rematch` meets its contract. Assumes nothing.
use Rattle.engine.proofs.CodeLaws.{step-told}
use Rattle.engine.proofs.windows.turepawon_next_augmenting_rematch.Goals as goal

pub returns : goal.returns
returns c = step-told _ _ _ _ _ _ _ _ _ c.next_augmenting_rematch-step.ensures c.list_told.ensures.0 c.list_told.ensures.1.0 c.list_told.ensures.1.1
