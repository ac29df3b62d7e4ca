-- `assignment_path::entry::search_path` meets its contract. Assumes nothing.
use Rattle.assignment_tables.specs.Tables.{the_board}
use Rattle.assignment_index.specs.Index.{the_roster}
use Rattle.path_steps.proofs.PlainLaws.{board_plain}
use native.Mathlib.Omega.{arith}
use borrow.Author.Rules.{rules}
use Rattle.assignment_path.specs.Searching.{request}
use Rattle.assignment_path.proofs.SearchLaws.{none_found, not_given, given, rows_room, values-room, rows_part, values-part}
use mathlib.Core.Path.{sym, ◌∙◌}
use Rattle.assignment_path.proofs.entry.search_path.Goals as goal

pub discover-trail-requires : goal.discover-trail-requires
discover-trail-requires c = record { searchable = c.requires.searchable; roomy = record { rows_long = search rules; values_long = search rules; within = omega arith }; depth_bound = c.requires.depth_bound }

pub returns-in-Missed : goal.returns-in-Missed
returns-in-Missed c = none_found (the_board c.args.tables.now) (the_roster c.args.tables.now c.args.index.now) (request c.args.row c.args.value c.args.depth c.args.displace c.args.limit c.args.budget) _ _ _ c.discover-trail.ensures _ _ _ c.in-Missed.is

pub slice_bounds-list_rows-end : goal.slice_bounds-list_rows-end
slice_bounds-list_rows-end c = rows_room _ _ _ _ c.discover-trail.ensures _ c.in-Found.is

pub slice_bounds-give_back-end : goal.slice_bounds-give_back-end
slice_bounds-give_back-end c = rows_part _ _ _ _ c.discover-trail.ensures _ c.in-Found.is

pub slice_bounds-list_values-end : goal.slice_bounds-list_values-end
slice_bounds-list_values-end c = values-room _ _ _ _ c.discover-trail.ensures _ c.in-Found.is

pub slice_bounds-give_back-end-2 : goal.slice_bounds-give_back-end-2
slice_bounds-give_back-end-2 c = values-part _ _ _ _ c.discover-trail.ensures _ c.in-Found.is

pub give_back-edits-requires : goal.give_back-edits-requires
give_back-edits-requires c = let d = c.discover-trail.ensures in
    let f = c.in-Found.is in record { indexed = c.requires.searchable.index; list_rows_len = sym (rows_part _ _ _ _ d _ f) ∙ values-part _ _ _ _ d _ f; roomy = record { rows = c.requires.rows_in_bounds.0; values = c.requires.rows_in_bounds.1 } }

pub returns-then-edits-eq0 : goal.returns-then-edits-eq0
returns-then-edits-eq0 c = not_given (the_board c.args.tables.now) (the_roster c.args.tables.now c.args.index.now) (request c.args.row c.args.value c.args.depth c.args.displace c.args.limit c.args.budget) _ _ _ c.discover-trail.ensures _ _ (board_plain c.args.tables.now.shape _ _ c.requires.searchable.index.marked) _ c.in-Found.is _ _ _ c.give_back-edits.ensures c.if-edits-eq0.true

pub returns : goal.returns
returns c = given (the_board c.args.tables.now) (the_roster c.args.tables.now c.args.index.now) (request c.args.row c.args.value c.args.depth c.args.displace c.args.limit c.args.budget) _ _ _ c.discover-trail.ensures _ _ (board_plain c.args.tables.now.shape _ _ c.requires.searchable.index.marked) _ c.in-Found.is _ _ _ c.give_back-edits.ensures c.if-edits-eq0.false
