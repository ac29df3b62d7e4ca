-- `listing_room::members_room` meets its contract. Assumes nothing.
use mathlib.Core.Path.{refl}
use Rattle.listing_room.specs.Room.{members_room}
use Rattle.listing_room.proofs.members_room.Goals as goal

pub returns : goal.returns
unfolding members_room
returns c = refl
