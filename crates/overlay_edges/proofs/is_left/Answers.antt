-- `overlay_edges::is_left` meets its contract. Assumes nothing.
use mathlib.Core.Path.{sym, ◌∙◌}
use Rattle.assignment_tables.specs.Tables.{sequence_at}
use Rattle.assignment_index.specs.Index.{roster_in}
use Rattle.overlay_edges.proofs.EditLaws.{left_asked, left_none}
use Rattle.overlay_edges.proofs.is_left.Goals as goal

pub returns : goal.returns
returns c = left_asked (sequence_at c.args.tables.now.shape c.args.tables.now.marks.now c.args.tables.now.keys.now) (roster_in c.args.tables.now.shape.rows c.args.records.now) c.args.list_rows.now c.args.value (sequence_at c.args.tables.now.shape c.args.tables.now.marks.now c.args.tables.now.keys.now c.args.row c.args.value) _ _ (sym c.sequence_key.ensures ∙ c.in-Some.is) c.any_leaves.ensures

pub returns-in_default : goal.returns-in_default
returns-in_default c = left_none (sequence_at c.args.tables.now.shape c.args.tables.now.marks.now c.args.tables.now.keys.now) (roster_in c.args.tables.now.shape.rows c.args.records.now) c.args.list_rows.now c.args.value (sequence_at c.args.tables.now.shape c.args.tables.now.marks.now c.args.tables.now.keys.now c.args.row c.args.value) (sym c.sequence_key.ensures ∙ c.in_default.is)
