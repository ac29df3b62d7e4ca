-- `rematch_shift::shift_edits` meets its contract: the values that rows get stand in scratch cells; no edit where one is empty, else those that change something. Assumes nothing.
use mathlib.Core.Path.{ap}
use mathlib.Core.Bool.{not}
use Rattle.outputs.proofs.CellLaws.{room_in_cells}
use Rattle.rematch_shift.proofs.ShiftLaws.{front-within, front_long, ruled_out, allowed}
use Rattle.rematch_shift.proofs.shift_edits.Goals as goal

pub write_shifted-requires : goal.write_shifted-requires
write_shifted-requires c = record { rows_in_bounds = c.requires.rows_in_bounds; window_len_bound = (c.requires.window_len_bound.0, room_in_cells _ _ _ c.requires.window_len_bound.0 c.scratch-values.ensures) }

pub slice_bounds-values-end : goal.slice_bounds-values-end
slice_bounds-values-end c = front-within _ _ _ _ _ c.write_shifted.ensures

pub slice_bounds-none_empty-end : goal.slice_bounds-none_empty-end
slice_bounds-none_empty-end c = front_long _ _ _ _ _ c.write_shifted.ensures

pub returns-then-not-none_empty : goal.returns-then-not-none_empty
returns-then-not-none_empty c = ruled_out _ _ _ _ _ c.write_shifted.ensures _ c.none_empty.ensures _ _ (ap not c.if-not-none_empty.true)

pub slice_bounds-values-end-2 : goal.slice_bounds-values-end-2
slice_bounds-values-end-2 c = front-within _ _ _ _ _ c.write_shifted.ensures

pub slice_bounds-write_changed-end : goal.slice_bounds-write_changed-end
slice_bounds-write_changed-end c = front_long _ _ _ _ _ c.write_shifted.ensures

pub write_changed-requires : goal.write_changed-requires
write_changed-requires c = record { rows_in_bounds = c.requires.rows_in_bounds; list_rows_len = (front_long _ _ _ _ _ c.write_shifted.ensures, c.requires.window_len_bound.1, c.requires.window_len_bound.2) }

pub returns : goal.returns
returns c = allowed _ _ _ _ _ c.write_shifted.ensures _ c.none_empty.ensures _ _ (ap not c.if-not-none_empty.false) _ _ _ c.write_changed.ensures
