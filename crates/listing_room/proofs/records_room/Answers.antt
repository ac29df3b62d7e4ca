-- `listing_room::records_room` meets its contract. Assumes nothing.
use mathlib.Core.Path.{refl}
use Rattle.listing_room.specs.Room.{records_room}
use Rattle.listing_room.proofs.records_room.Goals as goal

pub returns : goal.returns
unfolding records_room
returns c = refl
