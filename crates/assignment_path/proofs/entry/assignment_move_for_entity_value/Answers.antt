-- `assignment_path::entry::assignment_move_for_entity_value` meets its contract. Assumes nothing.
use Rattle.search_rules.specs.Search.{search as found}
use Rattle.assignment_tables.specs.Tables.{the_board}
use Rattle.assignment_index.specs.Index.{the_roster}
use mathlib.Core.Path.{sym, ◌∙◌}
use mathlib.Core.Bool.{true}
use Rattle.refusals.proofs.AnswerLaws.{passed_on}
use Rattle.assignment_state.proofs.AdmitLaws.{ready}
use Rattle.assignment_path.specs.Searching.{request, searching}
use Rattle.assignment_path.proofs.SearchLaws.{not_admitted, too_deep, rows_short, values_short, answered}
use Rattle.assignment_path.proofs.entry.assignment_move_for_entity_value.Goals as goal

pub returns-in_err-admit : goal.returns-in_err-admit
unfolding searching
returns-in_err-admit c = rw (passed_on c.from_residual.result c.in_err-admit.field-0.0 c.from_residual.ensures) (not_admitted c.args.tables.now.shape c.args.tables.now.marks.now c.args.tables.now.keys.now c.args.tables.now.ranks.now c.args.index.now.records.now c.args.index.now.members.now c.args.depth (found (the_board c.args.tables.now) (the_roster c.args.tables.now c.args.index.now) (request c.args.row c.args.value c.args.depth c.args.displace c.args.limit c.args.budget)) c.args.out_rows.now c.args.out_values.now _ c.admit.ensures _ c.in_err-admit.was)

pub returns-then-depth-gt8 : goal.returns-then-depth-gt8
unfolding searching
returns-then-depth-gt8 c = too_deep c.args.tables.now.shape c.args.tables.now.marks.now c.args.tables.now.keys.now c.args.tables.now.ranks.now c.args.index.now.records.now c.args.index.now.members.now c.args.depth (found (the_board c.args.tables.now) (the_roster c.args.tables.now c.args.index.now) (request c.args.row c.args.value c.args.depth c.args.displace c.args.limit c.args.budget)) c.args.out_rows.now c.args.out_values.now _ c.admit.ensures c.in_ok-admit.was c.if-depth-gt8.true

pub returns-then-out_rows-tables : goal.returns-then-out_rows-tables
unfolding searching
returns-then-out_rows-tables c = rows_short c.args.tables.now.shape c.args.tables.now.marks.now c.args.tables.now.keys.now c.args.tables.now.ranks.now c.args.index.now.records.now c.args.index.now.members.now c.args.depth (found (the_board c.args.tables.now) (the_roster c.args.tables.now c.args.index.now) (request c.args.row c.args.value c.args.depth c.args.displace c.args.limit c.args.budget)) c.args.out_rows.now c.args.out_values.now _ c.admit.ensures c.in_ok-admit.was c.if-depth-gt8.false c.if-out_rows-tables.true

pub returns-then-out_values-tables : goal.returns-then-out_values-tables
unfolding searching
returns-then-out_values-tables c = values_short c.args.tables.now.shape c.args.tables.now.marks.now c.args.tables.now.keys.now c.args.tables.now.ranks.now c.args.index.now.records.now c.args.index.now.members.now c.args.depth (found (the_board c.args.tables.now) (the_roster c.args.tables.now c.args.index.now) (request c.args.row c.args.value c.args.depth c.args.displace c.args.limit c.args.budget)) c.args.out_rows.now c.args.out_values.now _ c.admit.ensures c.in_ok-admit.was c.if-depth-gt8.false c.if-out_rows-tables.false c.if-out_values-tables.true

pub search_path-requires : goal.search_path-requires
search_path-requires c = let ready-now = (ready c.args.tables.now.shape c.args.tables.now.marks.now c.args.tables.now.keys.now c.args.tables.now.ranks.now c.args.index.now.records.now c.args.index.now.members.now true (sym c.admit.ensures ∙ c.in_ok-admit.was)).0 in record { searchable = record { index = ready-now.index; candidates_fit = ready-now.tables.candidates_fit }; depth_bound = c.if-depth-gt8.false; rows_in_bounds = (c.if-out_rows-tables.false, c.if-out_values-tables.false) }

pub returns : goal.returns
unfolding searching
returns c = answered c.args.tables.now.shape c.args.tables.now.marks.now c.args.tables.now.keys.now c.args.tables.now.ranks.now c.args.index.now.records.now c.args.index.now.members.now c.args.depth (found (the_board c.args.tables.now) (the_roster c.args.tables.now c.args.index.now) (request c.args.row c.args.value c.args.depth c.args.displace c.args.limit c.args.budget)) c.args.out_rows.now c.args.out_values.now _ c.admit.ensures c.in_ok-admit.was c.if-depth-gt8.false c.if-out_rows-tables.false c.if-out_values-tables.false _ _ _ c.search_path.ensures
