-- `filed_rosters::opening::open_roster` meets its contract: too little scratch comes before what opening the file refuses. Assumes nothing.
use mathlib.Core.Path.{ap}
use mathlib.Core.Bool.{not}
use Rattle.refusals.proofs.AnswerLaws.{passed_on}
use Rattle.filed_rosters.proofs.OpeningLaws.{no_room, room-told, not_opened, counted, indexed}
use Rattle.filed_rosters.proofs.opening.open_roster.Goals as goal

pub returns-then-not-has_room : goal.returns-then-not-has_room
returns-then-not-has_room c = no_room _ _ _ _ _ c.has_room.ensures (ap not c.if-not-has_room.true)

pub open_file-requires : goal.open_file-requires
open_file-requires c = (room-told _ _ _ _ c.has_room.ensures (ap not c.if-not-has_room.false)).0

pub file_index-requires : goal.file_index-requires
file_index-requires c = let room = room-told _ _ _ _ c.has_room.ensures (ap not c.if-not-has_room.false) in record { counted = counted _ _ _ _ c.has_room.ensures (ap not c.if-not-has_room.false) _ _ _ c.open_file.ensures _ c.in_ok-file.was c.open_file.auto.cells; in_bounds = (room.1, room.2); in_bounds_2 = c.requires }

pub returns-in_err-file : goal.returns-in_err-file
returns-in_err-file c = rw (passed_on c.from_residual.result c.in_err-file.field-0.0 c.from_residual.ensures) (not_opened _ _ _ _ c.has_room.ensures (ap not c.if-not-has_room.false) _ _ _ c.open_file.ensures _ c.in_err-file.was)

pub returns : goal.returns
returns c = indexed _ _ _ _ c.has_room.ensures (ap not c.if-not-has_room.false) _ _ _ c.open_file.ensures _ c.in_ok-file.was c.open_file.auto.cells _ _ _ _ _ _ c.file_index.ensures
