-- `planner_calendar::index_calendar` meets its contract: the fronts have the lengths of tables and index, and ranks are there that say nothing. Assumes nothing.
use Rattle.filed_rosters.proofs.StandLaws.{stands-small, marks_end, keys_end, records_end, members_end}
use Rattle.planner_calendar.proofs.CalendarLaws.{ranks-within, ranks_end, ready_so, index_calendar_so}
use Rattle.planner_calendar.proofs.index_calendar.Goals as goal

pub ranks_length-given-requires : goal.ranks_length-given-requires
ranks_length-given-requires c = stands-small _ _ _ _ _ c.requires

pub marks_length-marks_end-requires : goal.marks_length-marks_end-requires
marks_length-marks_end-requires c = stands-small _ _ _ _ _ c.requires

pub keys_length-keys_end-requires : goal.keys_length-keys_end-requires
keys_length-keys_end-requires c = stands-small _ _ _ _ _ c.requires

pub slice_bounds-tables-end : goal.slice_bounds-tables-end
slice_bounds-tables-end c = marks_end _ _ _ _ _ c.requires _ c.marks_length-marks_end.ensures

pub slice_bounds-tables-end-2 : goal.slice_bounds-tables-end-2
slice_bounds-tables-end-2 c = keys_end _ _ _ _ _ c.requires _ c.keys_length-keys_end.ensures

pub slice_bounds-ranks-end : goal.slice_bounds-ranks-end
slice_bounds-ranks-end c = ranks-within _ _ _ _ _ c.requires _ _ c.no_ranks-ranks.ensures c.ranks_length-given.ensures

pub slice_bounds-tables-end-3 : goal.slice_bounds-tables-end-3
slice_bounds-tables-end-3 c = ranks_end _ _ _ _ _ c.requires _ _ c.no_ranks-ranks.ensures c.ranks_length-given.ensures

pub slice_bounds-index-end : goal.slice_bounds-index-end
slice_bounds-index-end c = records_end _ _ _ _ _ c.requires

pub slice_bounds-index-end-2 : goal.slice_bounds-index-end-2
slice_bounds-index-end-2 c = members_end _ _ _ _ _ c.requires

pub write_calendar-requires : goal.write_calendar-requires
write_calendar-requires c = ready_so _ _ _ _ _ c.requires _ _ c.no_ranks-ranks.ensures c.ranks_length-given.ensures _ _ c.marks_length-marks_end.ensures c.keys_length-keys_end.ensures

pub returns : goal.returns
returns c = index_calendar_so _ _ _ _ _ c.requires _ _ c.no_ranks-ranks.ensures c.ranks_length-given.ensures _ _ c.marks_length-marks_end.ensures c.keys_length-keys_end.ensures _ _ _ _ c.write_calendar.ensures
