-- `overlay_pairs::pairs::is_listed` meets its contract. Assumes nothing.
use mathlib.Core.Path.{◌∙◌}
use Rattle.overlay_pairs.proofs.InTurn.{listed}
use Rattle.overlay_pairs.proofs.pairs.is_listed.Goals as goal

pub returns : goal.returns
returns c = c.contains.ensures.value ∙ listed _ _
