-- `window_kinds::cursor::has_window` meets its contract. Assumes nothing.
use mathlib.Core.Path.{refl}
use Rattle.window_kinds.specs.Kinds.{has_window}
use Rattle.window_kinds.proofs.cursor.has_window.Goals as goal

pub returns : goal.returns
unfolding has_window
returns c = refl
