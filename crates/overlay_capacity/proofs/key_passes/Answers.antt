-- `overlay_capacity::key_passes` meets its contract. Assumes nothing.
use native.Mathlib.Omega.{arith}
use Rattle.overlay_capacity.proofs.RoomLaws.{list_short, room_at, room_free, countable, recorded}
use Rattle.overlay_capacity.proofs.key_passes.Goals as goal

pub holders-held-requires : goal.holders-held-requires
holders-held-requires c = countable c.args.tables.now.shape c.args.tables.now.marks.now c.args.tables.now.keys.now c.args.index.now.records.now c.args.index.now.members.now c.args.list_rows.now c.args.list_values.now c.requires.indexed c.requires.listed

pub departures-left-requires : goal.departures-left-requires
departures-left-requires c = recorded c.args.tables.now.shape c.args.tables.now.marks.now c.args.tables.now.keys.now c.args.index.now.records.now c.args.index.now.members.now c.args.list_rows.now c.args.list_values.now c.requires.indexed c.requires.listed

pub fits_places-requires : goal.fits_places-requires
fits_places-requires c = let l = list_short c.args.tables.now.shape c.args.tables.now.marks.now c.args.tables.now.keys.now c.args.index.now.records.now c.args.index.now.members.now c.args.list_rows.now c.args.list_values.now c.requires.indexed c.requires.listed in omega arith

pub returns : goal.returns
returns c = room_at c.args.tables.now.shape c.args.tables.now.marks.now c.args.tables.now.keys.now c.args.index.now.records.now c.args.index.now.members.now c.args.list_rows.now c.args.list_values.now c.requires.indexed c.requires.listed _ _ _ _ _ _ c.in-Some.is c.holders-held.ensures.0 c.arrivals-arrived.ensures.0 c.departures-left.ensures.0 c.fits_places.ensures

pub returns-in_default : goal.returns-in_default
returns-in_default c = room_free c.args.tables.now.shape c.args.tables.now.marks.now c.args.tables.now.keys.now c.args.index.now.records.now c.args.index.now.members.now c.args.list_rows.now c.args.list_values.now c.requires.indexed c.requires.listed _ c.in_default.is
