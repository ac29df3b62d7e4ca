-- `window_kinds::cursor::begin` meets its contract. Assumes nothing.
use Rattle.window_kinds.proofs.CursorLaws.{too_many, begins}
use Rattle.window_kinds.proofs.cursor.begin.Goals as goal

pub returns-then-count-gt128 : goal.returns-then-count-gt128
returns-then-count-gt128 c = too_many _ _ _ c.if-count-gt128.true

pub returns : goal.returns
returns c = begins _ _ _ c.if-count-gt128.false _ _ c.smaller.ensures c.larger.ensures
