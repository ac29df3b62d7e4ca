-- `assignment_cycle::moves::window_move` meets its contract: the edits of the shift stand in two local arrays, and are tested if they are two or more. Assumes nothing.
use Rattle.assignment_tables.specs.Tables.{the_board}
use Rattle.assignment_index.specs.Index.{the_roster}
use Rattle.rematch_shift.specs.Shift.{shift_edits}
use native.Mathlib.Omega.{arith}
use Rattle.outputs.proofs.CellLaws.{room_in_cells}
use Rattle.assignment_index.proofs.Changes.{records_long}
use Rattle.assignment_cycle.proofs.MoveLaws.{rows_long, values_long, as_long, rows_room, values-room, too_few, enough}
use Rattle.assignment_cycle.proofs.moves.window_move.Goals as goal

pub shift_edits-n-requires : goal.shift_edits-n-requires
shift_edits-n-requires c = let long = records_long c.args.tables.now.shape c.args.tables.now.marks.now c.args.tables.now.keys.now c.args.index.now.records.now c.args.index.now.members.now c.requires.indexed in record { rows_in_bounds = omega (arith, long); window_len_bound = (c.requires.window_len_bound, room_in_cells _ _ _ c.requires.window_len_bound c.scratch-list_rows.ensures, room_in_cells _ _ _ c.requires.window_len_bound c.scratch-list_values.ensures) }

pub returns-then-n-lt2 : goal.returns-then-n-lt2
returns-then-n-lt2 c = too_few (the_board c.args.tables.now) (the_roster c.args.tables.now c.args.index.now) _ _ _ _ _ _ _ c.shift_edits-n.ensures _ _ c.if-n-lt2.true

pub slice_bounds-list_rows-end : goal.slice_bounds-list_rows-end
slice_bounds-list_rows-end c = rows_room _ _ _ _ _ _ c.shift_edits-n.ensures

pub slice_bounds-give_back-end : goal.slice_bounds-give_back-end
slice_bounds-give_back-end c = rows_long _ _ _ _ _ _ c.shift_edits-n.ensures

pub slice_bounds-list_values-end : goal.slice_bounds-list_values-end
slice_bounds-list_values-end c = values-room _ _ _ _ _ _ c.shift_edits-n.ensures

pub slice_bounds-give_back-end-2 : goal.slice_bounds-give_back-end-2
slice_bounds-give_back-end-2 c = values_long _ _ _ _ _ _ c.shift_edits-n.ensures

pub give_back-requires : goal.give_back-requires
give_back-requires c = let e = c.shift_edits-n.ensures in record { indexed = c.requires.indexed; list_rows_len = as_long (shift_edits (the_roster c.args.tables.now c.args.index.now) c.args.window.now c.args.shift) _ _ _ _ _ e; roomy = c.requires.roomy }

pub returns : goal.returns
returns c = enough (the_board c.args.tables.now) (the_roster c.args.tables.now c.args.index.now) _ _ _ _ _ _ _ c.shift_edits-n.ensures _ _ c.if-n-lt2.false _ _ _ c.give_back.ensures
