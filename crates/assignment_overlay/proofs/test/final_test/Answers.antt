-- `assignment_overlay::test::final_test` meets its contract. Assumes nothing.
use mathlib.Core.Path.{ap}
use mathlib.Core.Bool.{not, true}
use Rattle.basics.specs.Edits.{edits}
use Rattle.assignment_tables.specs.Tables.{the_board}
use Rattle.assignment_index.specs.Index.{the_roster}
use Rattle.assignment_overlay.proofs.TestLaws.{list_told, not_read, no_room, edges_decide}
use Rattle.assignment_overlay.proofs.test.final_test.Goals as goal

pub returns-then-not-list_reads : goal.returns-then-not-list_reads
returns-then-not-list_reads c = not_read (the_board c.args.tables.now) (the_roster c.args.tables.now c.args.index.now) (edits c.args.list_rows.now c.args.list_values.now) _ (c.list_reads.ensures c.args.tables.now.keys.now (the_roster c.args.tables.now c.args.index.now)) (ap not c.if-not-list_reads.true)

pub capacity_passes-requires : goal.capacity_passes-requires
capacity_passes-requires c = record { indexed = c.requires.indexed; listed = list_told true (the_board c.args.tables.now) (the_roster c.args.tables.now c.args.index.now) c.args.list_rows.now c.args.list_values.now _ c.requires.list_rows_len (c.list_reads.ensures c.args.tables.now.keys.now (the_roster c.args.tables.now c.args.index.now)) (ap not c.if-not-list_reads.false) }

pub returns-then-not-capacity_passes : goal.returns-then-not-capacity_passes
returns-then-not-capacity_passes c = no_room (the_board c.args.tables.now) (the_roster c.args.tables.now c.args.index.now) (edits c.args.list_rows.now c.args.list_values.now) _ (c.list_reads.ensures c.args.tables.now.keys.now (the_roster c.args.tables.now c.args.index.now)) (ap not c.if-not-list_reads.false) _ c.capacity_passes.ensures (ap not c.if-not-capacity_passes.true)

pub edges_pass-requires : goal.edges_pass-requires
edges_pass-requires c = record { indexed = c.requires.indexed; listed = list_told true (the_board c.args.tables.now) (the_roster c.args.tables.now c.args.index.now) c.args.list_rows.now c.args.list_values.now _ c.requires.list_rows_len (c.list_reads.ensures c.args.tables.now.keys.now (the_roster c.args.tables.now c.args.index.now)) (ap not c.if-not-list_reads.false) }

pub returns : goal.returns
returns c = edges_decide (the_board c.args.tables.now) (the_roster c.args.tables.now c.args.index.now) (edits c.args.list_rows.now c.args.list_values.now) _ (c.list_reads.ensures c.args.tables.now.keys.now (the_roster c.args.tables.now c.args.index.now)) (ap not c.if-not-list_reads.false) _ c.capacity_passes.ensures (ap not c.if-not-capacity_passes.false) _ c.edges_pass.ensures
