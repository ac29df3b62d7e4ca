-- `path_steps::free::free_after` meets its contract: nobody who stayed blocks, and nobody who came. Assumes nothing.
use Rattle.assignment_index.specs.Index.{the_roster}
use Rattle.path_blockers.proofs.SoughtLaws.{around_least}
use Rattle.path_steps.proofs.FreeLaws.{stayer-blocks, arrivals_decide}
use Rattle.path_steps.proofs.free.free_after.Goals as goal

pub returns-then-stayer-tables : goal.returns-then-stayer-tables
returns-then-stayer-tables c = stayer-blocks c.args.tables.now.shape c.args.tables.now.marks.now c.args.tables.now.keys.now c.args.row c.args.value (the_roster c.args.tables.now c.args.index.now) c.args.list_rows.now c.args.list_values.now c.requires.list_rows_len _ (around_least c.args.tables.now.shape c.args.tables.now.marks.now c.args.tables.now.keys.now c.args.index.now.records.now _ _ _ _ _ _ _ (record { holding = c.holders_of-holders.ensures; before = c.rows_below-below.ensures.result_value; behind = c.rows_above-above.ensures.result_value }) _ _ c.first_blocker-stayer.ensures) c.if-stayer-tables.true

pub arrivals_clear-requires : goal.arrivals_clear-requires
arrivals_clear-requires c = record { marked = c.requires.indexed.marked; keys_len = c.requires.indexed.keys_long; list_rows_len = c.requires.list_rows_len }

pub returns : goal.returns
returns c = arrivals_decide c.args.tables.now.shape c.args.tables.now.marks.now c.args.tables.now.keys.now c.args.row c.args.value (the_roster c.args.tables.now c.args.index.now) c.args.list_rows.now c.args.list_values.now c.requires.list_rows_len _ (around_least c.args.tables.now.shape c.args.tables.now.marks.now c.args.tables.now.keys.now c.args.index.now.records.now _ _ _ _ _ _ _ (record { holding = c.holders_of-holders.ensures; before = c.rows_below-below.ensures.result_value; behind = c.rows_above-above.ensures.result_value }) _ _ c.first_blocker-stayer.ensures) c.if-stayer-tables.false _ c.arrivals_clear.ensures
