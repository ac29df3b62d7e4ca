-- `window_kinds::cursor::refuse` meets its contract: the cursor as it was, and the refusal. Assumes nothing.
use mathlib.Core.Path.{refl}
use Rattle.window_kinds.proofs.cursor.refuse.Goals as goal

pub returns : goal.returns
returns c = refl
