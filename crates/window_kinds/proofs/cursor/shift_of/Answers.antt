-- `window_kinds::cursor::shift_of` meets its contract. Assumes nothing.
use borrow.Author.Tests.{eq-eqb, ne_eqb}
use Rattle.window_kinds.proofs.cursor.shift_of.Goals as goal

pub returns-then-cursor-eq0 : goal.returns-then-cursor-eq0
returns-then-cursor-eq0 c = rw (eq-eqb _ _ c.if-cursor-eq0.true)

pub returns : goal.returns
returns c = rw (ne_eqb _ _ c.if-cursor-eq0.false)
