-- `filed_rosters::opening::has_room` meets its contract. Assumes nothing.
use mathlib.Core.Path.{refl}
use Rattle.filed_rosters.specs.Filing.{roomy}
use Rattle.filed_rosters.proofs.opening.has_room.Goals as goal

pub returns : goal.returns
unfolding roomy
returns c = refl
