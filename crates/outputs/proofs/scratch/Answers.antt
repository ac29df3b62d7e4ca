-- `outputs::scratch` meets its contract: the number in each of the cells. Assumes nothing.
use mathlib.Core.Path.{refl}
use Rattle.outputs.specs.Outputs.{cells}
use Rattle.outputs.proofs.scratch.Goals as goal

-- `outputs::scratch` meets its contract: the number in each of the cells. Assumes nothing.
pub returns : goal.returns
unfolding cells
returns c = refl
