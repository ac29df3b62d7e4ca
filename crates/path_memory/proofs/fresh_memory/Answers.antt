-- `path_memory::fresh_memory` meets its contract. Assumes nothing.
use mathlib.Core.Path.{refl}
use Rattle.path_memory.specs.Memory.{nothing_yet}
use Rattle.path_memory.proofs.fresh_memory.Goals as goal

pub returns : goal.returns
unfolding nothing_yet
returns c = refl
