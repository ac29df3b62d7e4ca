-- `walk_entry::has_room` meets its contract. Assumes nothing.
use mathlib.Core.Path.{refl}
use Rattle.assignment_walk.specs.Runs.{roomy}
use Rattle.walk_entry.proofs.has_room.Goals as goal

pub returns : goal.returns
unfolding roomy
returns c = refl
