-- `listing::windows::write_index` meets its contract: the fronts have the lengths of tables and index. Assumes nothing.
use Rattle.filed_rosters.proofs.StandLaws.{stands-small, marks_end, keys_end, records_end, members_end}
use Rattle.listing.proofs.IndexLaws.{listable, index_listed}
use Rattle.listing.proofs.windows.write_index.Goals as goal

pub marks_length-marks_end-requires : goal.marks_length-marks_end-requires
marks_length-marks_end-requires c = stands-small _ _ _ _ _ c.requires.stands

pub keys_length-keys_end-requires : goal.keys_length-keys_end-requires
keys_length-keys_end-requires c = stands-small _ _ _ _ _ c.requires.stands

pub slice_bounds-tables-end : goal.slice_bounds-tables-end
slice_bounds-tables-end c = marks_end _ _ _ _ _ c.requires.stands _ c.marks_length-marks_end.ensures

pub slice_bounds-tables-end-2 : goal.slice_bounds-tables-end-2
slice_bounds-tables-end-2 c = keys_end _ _ _ _ _ c.requires.stands _ c.keys_length-keys_end.ensures

pub slice_bounds-index-end : goal.slice_bounds-index-end
slice_bounds-index-end c = records_end _ _ _ _ _ c.requires.stands

pub slice_bounds-index-end-2 : goal.slice_bounds-index-end-2
slice_bounds-index-end-2 c = members_end _ _ _ _ _ c.requires.stands

pub write_windows-requires : goal.write_windows-requires
write_windows-requires c = record { listable = listable _ _ _ _ _ c.requires.stands _ _ c.marks_length-marks_end.ensures c.keys_length-keys_end.ensures c.requires.bounded; in_bounds = c.requires.in_bounds }

pub returns : goal.returns
returns c = index_listed _ _ _ _ _ c.requires.stands _ _ c.marks_length-marks_end.ensures c.keys_length-keys_end.ensures _ _ _ c.write_windows.ensures
