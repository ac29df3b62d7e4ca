-- `overlay_capacity::new_passes` meets its contract. Assumes nothing.
use native.Mathlib.Omega.{arith}
use Rattle.overlay_capacity.proofs.RoomLaws.{list_short, none_left, new_left, new_judged, room_at, room_free, countable, recorded}
use Rattle.overlay_capacity.proofs.new_passes.Goals as goal

pub is_left-requires : goal.is_left-requires
is_left-requires c = recorded c.args.tables.now.shape c.args.tables.now.marks.now c.args.tables.now.keys.now c.args.index.now.records.now c.args.index.now.members.now c.args.list_rows.now c.args.list_values.now c.requires.indexed c.requires.listed

pub returns-then-is_left : goal.returns-then-is_left
returns-then-is_left c = new_left c.args.tables.now.shape c.args.tables.now.marks.now c.args.tables.now.keys.now c.args.index.now.records.now c.args.index.now.members.now c.args.list_rows.now c.args.list_values.now c.requires.indexed c.requires.listed c.args.i _ c.capacity_key.ensures c.requires.list_values_value _ c.in-Some.is _ c.is_left.ensures c.if-is_left.true

pub holders-held-requires : goal.holders-held-requires
holders-held-requires c = countable c.args.tables.now.shape c.args.tables.now.marks.now c.args.tables.now.keys.now c.args.index.now.records.now c.args.index.now.members.now c.args.list_rows.now c.args.list_values.now c.requires.indexed c.requires.listed

pub fits_places-requires : goal.fits_places-requires
fits_places-requires c = let l = list_short c.args.tables.now.shape c.args.tables.now.marks.now c.args.tables.now.keys.now c.args.index.now.records.now c.args.index.now.members.now c.args.list_rows.now c.args.list_values.now c.requires.indexed c.requires.listed in omega arith

pub returns : goal.returns
returns c = new_judged c.args.tables.now.shape c.args.tables.now.marks.now c.args.tables.now.keys.now c.args.index.now.records.now c.args.index.now.members.now c.args.list_rows.now c.args.list_values.now c.requires.indexed c.requires.listed c.args.i _ c.capacity_key.ensures _ (room_at c.args.tables.now.shape c.args.tables.now.marks.now c.args.tables.now.keys.now c.args.index.now.records.now c.args.index.now.members.now c.args.list_rows.now c.args.list_values.now c.requires.indexed c.requires.listed _ _ _ _ _ _ c.in-Some.is c.holders-held.ensures.0 c.arrivals-arrived.ensures.0 (none_left c.args.tables.now.shape c.args.tables.now.marks.now c.args.tables.now.keys.now c.args.index.now.records.now c.args.index.now.members.now c.args.list_rows.now c.args.list_values.now c.requires.indexed c.requires.listed _ _ c.is_left.ensures c.if-is_left.false) c.fits_places.ensures)

pub returns-in_default : goal.returns-in_default
returns-in_default c = new_judged c.args.tables.now.shape c.args.tables.now.marks.now c.args.tables.now.keys.now c.args.index.now.records.now c.args.index.now.members.now c.args.list_rows.now c.args.list_values.now c.requires.indexed c.requires.listed c.args.i _ c.capacity_key.ensures _ (room_free c.args.tables.now.shape c.args.tables.now.marks.now c.args.tables.now.keys.now c.args.index.now.records.now c.args.index.now.members.now c.args.list_rows.now c.args.list_values.now c.requires.indexed c.requires.listed _ c.in_default.is)
