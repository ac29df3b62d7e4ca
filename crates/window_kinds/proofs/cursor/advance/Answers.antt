-- `window_kinds::cursor::advance` meets its contract: the three ways on. Assumes nothing.
use mathlib.Core.Path.{ap}
use mathlib.Core.Bool.{not}
use Rattle.window_kinds.proofs.CursorLaws.{code_start, code_variant, code-length}
use Rattle.window_kinds.proofs.cursor.advance.Goals as goal

pub returns-then-not-has_window : goal.returns-then-not-has_window
returns-then-not-has_window c = code_start _ _ _ _ _ c.has_window.ensures (ap not c.if-not-has_window.true)

pub returns-then-cursor-tries : goal.returns-then-cursor-tries
returns-then-cursor-tries c = code_variant _ _ _ _ _ c.has_window.ensures (ap not c.if-not-has_window.false) c.if-cursor-tries.true

pub returns : goal.returns
returns c = code-length _ _ _ _ _ c.has_window.ensures (ap not c.if-not-has_window.false) c.if-cursor-tries.false
