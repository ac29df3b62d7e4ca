-- `overlay_edges::new_passes` meets its contract. Assumes nothing.
use Rattle.overlay_edges.proofs.EditLaws.{new_left, left_asks}
use Rattle.overlay_edges.proofs.new_passes.Goals as goal

pub is_left-requires : goal.is_left-requires
is_left-requires c = let both = left_asks c.args.tables.now.shape c.args.tables.now.marks.now c.args.tables.now.keys.now c.args.index.now.records.now c.args.index.now.members.now c.args.list_rows.now c.args.list_values.now c.requires.indexed c.requires.listed in record { marked = both.0; keys_len = both.1.0; list_rows_value = both.1.1 }

pub returns-then-is_left : goal.returns-then-is_left
returns-then-is_left c = (new_left c.args.tables.now.shape c.args.tables.now.marks.now c.args.tables.now.keys.now c.args.index.now.records.now c.args.index.now.members.now c.args.list_rows.now c.args.list_values.now c.requires.indexed c.requires.listed c.args.i _ c.requires.list_rows_value c.is_left.ensures c.if-is_left.true, c.requires.recalled)
