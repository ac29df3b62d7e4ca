-- `overlay_capacity::old_passes` meets its contract. Assumes nothing.
use native.Mathlib.Omega.{arith}
use Rattle.overlay_capacity.proofs.RoomLaws.{records-enough, row_in_range, list_short, old_leaves, room_at, room_free, old_judged, countable, recorded}
use Rattle.overlay_capacity.proofs.old_passes.Goals as goal

pub held_value-value-requires : goal.held_value-value-requires
held_value-value-requires c = (records-enough c.args.tables.now.shape c.args.tables.now.marks.now c.args.tables.now.keys.now c.args.index.now.records.now c.args.index.now.members.now c.args.list_rows.now c.args.list_values.now c.requires.indexed c.requires.listed, row_in_range c.args.tables.now.shape c.args.tables.now.marks.now c.args.tables.now.keys.now c.args.index.now.records.now c.args.index.now.members.now c.args.list_rows.now c.args.list_values.now c.requires.indexed c.requires.listed _ c.requires.i_in_bounds)

pub holders-held-requires : goal.holders-held-requires
holders-held-requires c = countable c.args.tables.now.shape c.args.tables.now.marks.now c.args.tables.now.keys.now c.args.index.now.records.now c.args.index.now.members.now c.args.list_rows.now c.args.list_values.now c.requires.indexed c.requires.listed

pub left_key_departures-leaving-requires : goal.left_key_departures-leaving-requires
left_key_departures-leaving-requires c = record { rows_bound = recorded c.args.tables.now.shape c.args.tables.now.marks.now c.args.tables.now.keys.now c.args.index.now.records.now c.args.index.now.members.now c.args.list_rows.now c.args.list_values.now c.requires.indexed c.requires.listed; list_rows_value = (c.requires.listed.in_range, c.requires.listed.once); i_in_bounds = (c.requires.i_in_bounds, old_leaves c.args.tables.now.shape c.args.tables.now.marks.now c.args.tables.now.keys.now c.args.index.now.records.now c.args.index.now.members.now c.args.list_rows.now c.args.list_values.now c.requires.indexed c.requires.listed c.args.i _ _ _ c.held_value-value.ensures c.capacity_key.ensures c.in-Some.is); held_value = c.holders-held.ensures.0 }

pub fits_places-requires : goal.fits_places-requires
fits_places-requires c = let l = list_short c.args.tables.now.shape c.args.tables.now.marks.now c.args.tables.now.keys.now c.args.index.now.records.now c.args.index.now.members.now c.args.list_rows.now c.args.list_values.now c.requires.indexed c.requires.listed in omega arith

pub returns : goal.returns
returns c = old_judged c.args.tables.now.shape c.args.tables.now.marks.now c.args.tables.now.keys.now c.args.index.now.records.now c.args.index.now.members.now c.args.list_rows.now c.args.list_values.now c.requires.indexed c.requires.listed c.args.i _ _ _ c.held_value-value.ensures c.capacity_key.ensures (room_at c.args.tables.now.shape c.args.tables.now.marks.now c.args.tables.now.keys.now c.args.index.now.records.now c.args.index.now.members.now c.args.list_rows.now c.args.list_values.now c.requires.indexed c.requires.listed _ _ _ _ _ _ c.in-Some.is c.holders-held.ensures.0 c.arrivals-arrived.ensures.0 c.left_key_departures-leaving.ensures.0 c.fits_places.ensures)

pub returns-in_default : goal.returns-in_default
returns-in_default c = old_judged c.args.tables.now.shape c.args.tables.now.marks.now c.args.tables.now.keys.now c.args.index.now.records.now c.args.index.now.members.now c.args.list_rows.now c.args.list_values.now c.requires.indexed c.requires.listed c.args.i _ _ _ c.held_value-value.ensures c.capacity_key.ensures (room_free c.args.tables.now.shape c.args.tables.now.marks.now c.args.tables.now.keys.now c.args.index.now.records.now c.args.index.now.members.now c.args.list_rows.now c.args.list_values.now c.requires.indexed c.requires.listed _ c.in_default.is)
