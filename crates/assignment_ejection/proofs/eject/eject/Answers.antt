-- `assignment_ejection::eject::eject` meets its contract: the rows are put back in scratch cells, and what changes is written from there. Assumes nothing.
use mathlib.Core.Path.{ap}
use mathlib.Core.Bool.{not}
use native.Mathlib.Omega.{arith}
use Rattle.rules.specs.Board.{Board}
use Rattle.rules.specs.Roster.{Roster}
use Rattle.assignment_tables.specs.Tables.{the_board}
use Rattle.assignment_index.specs.Index.{the_roster}
use Rattle.assignment_index.proofs.Changes.{records_long}
use Rattle.assignment_ejection.proofs.EjectedLaws.{cells_long, values-within, values_long, none_given, list_given}
use Rattle.assignment_ejection.proofs.eject.eject.Goals as goal

pub slice_bounds-put_all_back-end : goal.slice_bounds-put_all_back-end
slice_bounds-put_all_back-end c = cells_long c.args.window.now _ c.requires.window_len_bound.0 c.scratch-cells.ensures

pub put_all_back-requires : goal.put_all_back-requires
put_all_back-requires c = record { returning = c.requires.returning; window_len_bound = (c.requires.window_len_bound.0, cells_long c.args.window.now _ c.requires.window_len_bound.0 c.scratch-cells.ensures) }

pub returns-then-not-put_all_back : goal.returns-then-not-put_all_back
returns-then-not-put_all_back c =
    let B : Board = the_board c.args.tables.now in
    let h : Roster = the_roster c.args.tables.now c.args.index.now in
    none_given c.args.window.now _ c.requires.window_len_bound.0 c.scratch-cells.ensures c.put_all_back.new.values c.put_all_back.auto.values (B) (h) c.args.limit c.args.attempt c.args.out_rows.now c.args.out_values.now c.put_all_back.result c.put_all_back.ensures (ap not c.if-not-put_all_back.true)

pub slice_bounds-cells-end-2 : goal.slice_bounds-cells-end-2
slice_bounds-cells-end-2 c = values-within c.args.window.now _ c.requires.window_len_bound.0 c.scratch-cells.ensures c.put_all_back.new.values c.put_all_back.auto.values

pub slice_bounds-write_changed-end : goal.slice_bounds-write_changed-end
slice_bounds-write_changed-end c = values_long c.args.window.now _ c.requires.window_len_bound.0 c.scratch-cells.ensures c.put_all_back.new.values c.put_all_back.auto.values

pub write_changed-requires : goal.write_changed-requires
write_changed-requires c = record { rows_in_bounds = omega (arith, records_long c.args.tables.now.shape c.args.tables.now.marks.now c.args.tables.now.keys.now c.args.index.now.records.now c.args.index.now.members.now c.requires.returning.index); list_rows_len = (values_long c.args.window.now _ c.requires.window_len_bound.0 c.scratch-cells.ensures c.put_all_back.new.values c.put_all_back.auto.values, c.requires.window_len_bound.1, c.requires.window_len_bound.2) }

pub returns : goal.returns
returns c =
    let B : Board = the_board c.args.tables.now in
    let h : Roster = the_roster c.args.tables.now c.args.index.now in
    list_given c.args.window.now _ c.requires.window_len_bound.0 c.scratch-cells.ensures c.put_all_back.new.values c.put_all_back.auto.values (B) (h) c.args.limit c.args.attempt c.args.out_rows.now c.args.out_values.now c.put_all_back.result c.put_all_back.ensures (ap not c.if-not-put_all_back.false) _ _ _ c.write_changed.ensures
