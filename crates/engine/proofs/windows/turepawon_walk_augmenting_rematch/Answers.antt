-- `engine::windows::turepawon_walk_augmenting_rematch` meets its contract. Assumes nothing.
use Rattle.engine.proofs.CodeLaws.{walk-told}
use Rattle.engine.proofs.windows.turepawon_walk_augmenting_rematch.Goals as goal

pub returns : goal.returns
returns c = walk-told _ _ _ _ _ _ _ _ _ _ _ _ c.walk_augmenting_rematch-walk.ensures c.code.ensures c.walk_flag.ensures c.walk_moves.ensures c.walk_edits.ensures
