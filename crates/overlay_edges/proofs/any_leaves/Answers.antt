use native.Mathlib.Omega.{arith}
use Rattle.basics.proofs.Edits.{row_at}
use Rattle.basics.proofs.Loops.{all_none}
use Rattle.assignment_tables.specs.Tables.{sequence_at}
use Rattle.assignment_index.specs.Index.{roster_in}
use Rattle.overlay_edges.proofs.EditLaws.{leaves-here, stays_off_lem, nobody-leaves}
use Rattle.overlay_edges.proofs.any_leaves.Goals as goal

pub loop-row-init : goal.loop-row-init
loop-row-init c = (omega arith, all_none _)

pub held_value-held-requires : goal.held_value-held-requires
held_value-held-requires c = (c.requires.keys_len.1, row_at c.args.tables.now.shape.rows c.args.list_rows.now _ c.requires.list_rows_value c.loop-row-test.true)

pub has_place-requires : goal.has_place-requires
has_place-requires c = record { marked = c.requires.marked; keys_len = c.requires.keys_len.0 }

pub returns-then-has_place : goal.returns-then-has_place
returns-then-has_place c = leaves-here (sequence_at c.args.tables.now.shape c.args.tables.now.marks.now c.args.tables.now.keys.now) (roster_in c.args.tables.now.shape.rows c.args.records.now) c.args.list_rows.now c.args.value c.args.sequence c.loop-row.row-index _ _ c.loop-row-test.true c.held_value-held.ensures c.has_place.ensures c.if-has_place.true

pub loop-row-preserved : goal.loop-row-preserved
loop-row-preserved c = (omega arith, stays_off_lem (sequence_at c.args.tables.now.shape c.args.tables.now.marks.now c.args.tables.now.keys.now) (roster_in c.args.tables.now.shape.rows c.args.records.now) c.args.list_rows.now c.args.value c.args.sequence c.loop-row.row-index _ _ c.loop-row.invariant.1 c.held_value-held.ensures c.has_place.ensures c.if-has_place.false)

pub returns : goal.returns
returns c = nobody-leaves (sequence_at c.args.tables.now.shape c.args.tables.now.marks.now c.args.tables.now.keys.now) (roster_in c.args.tables.now.shape.rows c.args.records.now) c.args.list_rows.now c.args.value c.args.sequence c.loop-row.row-index c.loop-row.invariant.0 c.loop-row-test.false c.loop-row.invariant.1
