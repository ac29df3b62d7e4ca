-- `listing_room::no_ranks` meets its contract. Assumes nothing.
use mathlib.Core.Path.{refl}
use Rattle.listing_room.specs.Room.{no_ranks}
use Rattle.listing_room.proofs.no_ranks.Goals as goal

pub returns : goal.returns
unfolding no_ranks
returns c = refl
