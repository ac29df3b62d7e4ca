-- `filed_rosters::index::file_index` meets its contract: the stated room suffices, and what is filled stands in the fronts. Assumes nothing.
use mathlib.Core.Path.{refl, sym, ◌∙◌}
use lib.Seq.{length-take-le}
use Rattle.outputs.proofs.CellLaws.{room_in_cells}
use Rattle.filed_rosters.proofs.IndexLaws.{is-small, marks_long, keys_long, records_long, members_long}
use Rattle.filed_rosters.proofs.FrontLaws.{marks_room, keys_room, records_room, members_room, front-written}
use Rattle.filed_rosters.proofs.index.file_index.Goals as goal

pub marks_length-marks_end-requires : goal.marks_length-marks_end-requires
marks_length-marks_end-requires c = is-small _ _ _ c.requires.counted

pub keys_length-keys_end-requires : goal.keys_length-keys_end-requires
keys_length-keys_end-requires c = is-small _ _ _ c.requires.counted

pub slice_bounds-fill_index-end : goal.slice_bounds-fill_index-end
slice_bounds-fill_index-end c = marks_room _ (is-small _ _ _ c.requires.counted) _ _ c.requires.in_bounds.0 c.marks_length-marks_end.ensures

pub slice_bounds-fill_index-end-2 : goal.slice_bounds-fill_index-end-2
slice_bounds-fill_index-end-2 c = sym (length-take-le _ _ (marks_room _ (is-small _ _ _ c.requires.counted) _ _ c.requires.in_bounds.0 c.marks_length-marks_end.ensures))

pub slice_bounds-fill_index-end-3 : goal.slice_bounds-fill_index-end-3
slice_bounds-fill_index-end-3 c = keys_room _ (is-small _ _ _ c.requires.counted) _ _ c.requires.in_bounds.1 c.keys_length-keys_end.ensures

pub slice_bounds-fill_index-end-4 : goal.slice_bounds-fill_index-end-4
slice_bounds-fill_index-end-4 c = sym (length-take-le _ _ (keys_room _ (is-small _ _ _ c.requires.counted) _ _ c.requires.in_bounds.1 c.keys_length-keys_end.ensures))

pub slice_bounds-roster-end : goal.slice_bounds-roster-end
slice_bounds-roster-end c = room_in_cells _ 0 _ (is-small _ _ _ c.requires.counted).few_rows c.scratch-roster.ensures

pub slice_bounds-fill_index-end-5 : goal.slice_bounds-fill_index-end-5
slice_bounds-fill_index-end-5 c = sym (length-take-le _ _ (room_in_cells _ 0 _ (is-small _ _ _ c.requires.counted).few_rows c.scratch-roster.ensures))

pub slice_bounds-fill_index-end-6 : goal.slice_bounds-fill_index-end-6
slice_bounds-fill_index-end-6 c = records_room _ (is-small _ _ _ c.requires.counted) _ _ c.requires.in_bounds_2.0 refl

pub slice_bounds-fill_index-end-7 : goal.slice_bounds-fill_index-end-7
slice_bounds-fill_index-end-7 c = sym (length-take-le _ _ (records_room _ (is-small _ _ _ c.requires.counted) _ _ c.requires.in_bounds_2.0 refl))

pub slice_bounds-fill_index-end-8 : goal.slice_bounds-fill_index-end-8
slice_bounds-fill_index-end-8 c = members_room _ (is-small _ _ _ c.requires.counted) _ _ c.requires.in_bounds_2.1 refl

pub slice_bounds-fill_index-end-9 : goal.slice_bounds-fill_index-end-9
slice_bounds-fill_index-end-9 c = sym (length-take-le _ _ (members_room _ (is-small _ _ _ c.requires.counted) _ _ c.requires.in_bounds_2.1 refl))

pub fill_index-requires : goal.fill_index-requires
fill_index-requires c = let small = is-small _ _ _ c.requires.counted in record { counted = c.requires.counted; marks_len = (length-take-le _ _ (marks_room _ small _ _ c.requires.in_bounds.0 c.marks_length-marks_end.ensures) ∙ c.marks_length-marks_end.ensures, length-take-le _ _ (keys_room _ small _ _ c.requires.in_bounds.1 c.keys_length-keys_end.ensures) ∙ c.keys_length-keys_end.ensures); roster_len = (length-take-le _ _ (room_in_cells _ 0 _ small.few_rows c.scratch-roster.ensures), length-take-le _ _ (records_room _ small _ _ c.requires.in_bounds_2.0 refl), length-take-le _ _ (members_room _ small _ _ c.requires.in_bounds_2.1 refl)) }

pub returns : goal.returns
returns c = record { marks = front-written _ _ _ _ c.fill_index.ensures.marks_value.0 (marks_long _ _ _ ∙ sym c.marks_length-marks_end.ensures); keys = front-written _ _ _ _ c.fill_index.ensures.marks_value.1 (keys_long _ _ _ ∙ sym c.keys_length-keys_end.ensures); records = front-written _ _ _ _ c.fill_index.ensures.records_value.0 (records_long _ _ _); members = front-written _ _ _ _ c.fill_index.ensures.records_value.1 (members_long _ _ _) }
