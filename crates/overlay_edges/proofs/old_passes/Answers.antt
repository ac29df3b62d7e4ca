-- `overlay_edges::old_passes` meets its contract. Assumes nothing.
use Rattle.overlay_edges.proofs.EditLaws.{held_asks, old_judged}
use Rattle.overlay_edges.proofs.old_passes.Goals as goal

pub held_value-held-requires : goal.held_value-held-requires
held_value-held-requires c = held_asks c.args.tables.now.shape c.args.tables.now.marks.now c.args.tables.now.keys.now c.args.index.now.records.now c.args.index.now.members.now c.args.list_rows.now c.args.list_values.now _ c.requires.indexed c.requires.listed c.requires.i_in_bounds

pub returns : goal.returns
returns c = (old_judged c.args.tables.now.shape c.args.tables.now.marks.now c.args.tables.now.keys.now c.args.index.now.records.now c.args.index.now.members.now c.args.list_rows.now c.args.list_values.now c.requires.indexed c.requires.listed c.args.i _ _ c.held_value-held.ensures c.place_passes.ensures.0, c.place_passes.ensures.1)
