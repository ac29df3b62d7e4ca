-- `engine::windows::turepawon_new_cursor` meets its contract. Assumes nothing.
use Rattle.engine.proofs.CodeLaws.{new_cursor-told}
use Rattle.engine.proofs.windows.turepawon_new_cursor.Goals as goal

pub returns : goal.returns
returns c = new_cursor-told _ _ _ _ _ c.new_cursor-made.ensures c.code.ensures c.unwrap_or-at.ensures
