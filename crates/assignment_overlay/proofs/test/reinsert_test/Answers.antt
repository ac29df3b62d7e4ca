-- `assignment_overlay::test::reinsert_test` meets its contract. Assumes nothing.
use mathlib.Core.Path.{ap}
use mathlib.Core.Bool.{not, false}
use Rattle.assignment_tables.specs.Tables.{the_board}
use Rattle.assignment_index.specs.Index.{the_roster}
use Rattle.assignment_overlay.proofs.TestLaws.{list_told, not_read_here, key_full, beside_decides}
use Rattle.assignment_overlay.proofs.test.reinsert_test.Goals as goal

pub returns-then-not-list_reads : goal.returns-then-not-list_reads
returns-then-not-list_reads c = not_read_here (the_board c.args.tables.now) (the_roster c.args.tables.now c.args.index.now) c.args.list_rows.now c.args.list_values.now c.args.row c.args.value _ (c.list_reads.ensures c.args.tables.now.keys.now (the_roster c.args.tables.now c.args.index.now)) (ap not c.if-not-list_reads.true)

pub key_passes-requires : goal.key_passes-requires
key_passes-requires c = record { indexed = c.requires.indexed; listed = list_told false (the_board c.args.tables.now) (the_roster c.args.tables.now c.args.index.now) c.args.list_rows.now c.args.list_values.now _ c.requires.list_rows_len (c.list_reads.ensures c.args.tables.now.keys.now (the_roster c.args.tables.now c.args.index.now)) (ap not c.if-not-list_reads.false) }

pub returns-then-not-key_passes : goal.returns-then-not-key_passes
returns-then-not-key_passes c = key_full (the_board c.args.tables.now) (the_roster c.args.tables.now c.args.index.now) c.args.list_rows.now c.args.list_values.now c.args.row c.args.value _ (c.list_reads.ensures c.args.tables.now.keys.now (the_roster c.args.tables.now c.args.index.now)) (ap not c.if-not-list_reads.false) _ c.capacity_key-key.ensures _ c.key_passes.ensures (ap not c.if-not-key_passes.true)

pub beside_passes-requires : goal.beside_passes-requires
beside_passes-requires c = record { indexed = c.requires.indexed; listed = list_told false (the_board c.args.tables.now) (the_roster c.args.tables.now c.args.index.now) c.args.list_rows.now c.args.list_values.now _ c.requires.list_rows_len (c.list_reads.ensures c.args.tables.now.keys.now (the_roster c.args.tables.now c.args.index.now)) (ap not c.if-not-list_reads.false) }

pub returns : goal.returns
returns c = beside_decides (the_board c.args.tables.now) (the_roster c.args.tables.now c.args.index.now) c.args.list_rows.now c.args.list_values.now c.args.row c.args.value _ (c.list_reads.ensures c.args.tables.now.keys.now (the_roster c.args.tables.now c.args.index.now)) (ap not c.if-not-list_reads.false) _ c.capacity_key-key.ensures _ c.key_passes.ensures (ap not c.if-not-key_passes.false) _ c.beside_passes.ensures
