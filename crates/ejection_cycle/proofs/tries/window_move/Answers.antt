-- `ejection_cycle::tries::window_move` meets its contract: the list of the ejection stands in two local arrays, and is tested if it has an edit. Assumes nothing.
use Rattle.rules.specs.Board.{Board}
use Rattle.rules.specs.Roster.{Roster}
use Rattle.assignment_tables.specs.Tables.{the_board}
use Rattle.assignment_index.specs.Index.{the_roster}
use Rattle.assignment_cycle.proofs.MoveLaws.{rows_long, values_long, as_long, rows_room, values-room}
use Rattle.ejection_cycle.proofs.MoveLaws.{listed, none_listed, list_given}
use Rattle.ejection_cycle.proofs.tries.window_move.Goals as goal

pub slice_bounds-list_rows-end : goal.slice_bounds-list_rows-end
slice_bounds-list_rows-end c =
    let B : Board = the_board c.args.tables.now in
    let h : Roster = the_roster c.args.tables.now c.args.index.now in
    let w = listed (B) (h) c.args.limit c.args.attempt c.args.window.now _ _ _ _ _ c.eject-ejection.ensures _ c.in-Some.is in
    rows_room w.list _ _ _ _ _ w.front

pub slice_bounds-give_edited-end : goal.slice_bounds-give_edited-end
slice_bounds-give_edited-end c =
    let B : Board = the_board c.args.tables.now in
    let h : Roster = the_roster c.args.tables.now c.args.index.now in
    let w = listed (B) (h) c.args.limit c.args.attempt c.args.window.now _ _ _ _ _ c.eject-ejection.ensures _ c.in-Some.is in
    rows_long w.list _ _ _ _ _ w.front

pub slice_bounds-list_values-end : goal.slice_bounds-list_values-end
slice_bounds-list_values-end c =
    let B : Board = the_board c.args.tables.now in
    let h : Roster = the_roster c.args.tables.now c.args.index.now in
    let w = listed (B) (h) c.args.limit c.args.attempt c.args.window.now _ _ _ _ _ c.eject-ejection.ensures _ c.in-Some.is in
    values-room w.list _ _ _ _ _ w.front

pub slice_bounds-give_edited-end-in-Some : goal.slice_bounds-give_edited-end-in-Some
slice_bounds-give_edited-end-in-Some c =
    let B : Board = the_board c.args.tables.now in
    let h : Roster = the_roster c.args.tables.now c.args.index.now in
    let w = listed (B) (h) c.args.limit c.args.attempt c.args.window.now _ _ _ _ _ c.eject-ejection.ensures _ c.in-Some.is in
    values_long w.list _ _ _ _ _ w.front

pub give_edited-requires : goal.give_edited-requires
give_edited-requires c = let B : Board = the_board c.args.tables.now in
    let h : Roster = the_roster c.args.tables.now c.args.index.now in
    let w = listed (B) (h) c.args.limit c.args.attempt c.args.window.now _ _ _ _ _ c.eject-ejection.ensures _ c.in-Some.is in record { indexed = c.requires.returning.index; list_rows_len = as_long w.list _ _ _ _ _ w.front; roomy = c.requires.roomy }

pub returns-in-None : goal.returns-in-None
returns-in-None c =
    let B : Board = the_board c.args.tables.now in
    let h : Roster = the_roster c.args.tables.now c.args.index.now in
    none_listed (B) (h) c.args.limit c.args.attempt c.args.window.now _ _ _ _ _ c.eject-ejection.ensures c.in-None.is _ _

pub returns-in-Some : goal.returns-in-Some
returns-in-Some c =
    let B : Board = the_board c.args.tables.now in
    let h : Roster = the_roster c.args.tables.now c.args.index.now in
    let w = listed (B) (h) c.args.limit c.args.attempt c.args.window.now _ _ _ _ _ c.eject-ejection.ensures _ c.in-Some.is in
    list_given (B) (h) c.args.limit c.args.attempt c.args.window.now _ _ _ _ _ w _ _ _ _ _ c.give_edited.ensures
