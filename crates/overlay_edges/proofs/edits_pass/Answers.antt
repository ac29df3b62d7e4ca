-- `overlay_edges::edits_pass` meets its contract. Assumes nothing.
use mathlib.Core.Path.{ap}
use mathlib.Core.Bool.{not, true}
use Rattle.basics.proofs.Bools.{came}
use Rattle.overlay_edges.proofs.EditLaws.{old_fails, new_decides}
use Rattle.overlay_edges.proofs.edits_pass.Goals as goal

pub returns-then-not-old_places_pass : goal.returns-then-not-old_places_pass
returns-then-not-old_places_pass c = (old_fails c.args.tables.now.shape c.args.tables.now.marks.now c.args.tables.now.keys.now c.args.index.now.records.now c.args.index.now.members.now c.args.list_rows.now c.args.list_values.now c.requires.indexed c.requires.listed _ c.old_places_pass.ensures.0 (ap not c.if-not-old_places_pass.true), c.old_places_pass.ensures.1)

pub new_places_pass-requires : goal.new_places_pass-requires
new_places_pass-requires c = record { indexed = c.requires.indexed; listed = c.requires.listed; list_rows_value = came _ c.old_places_pass.result true c.old_places_pass.ensures.0 (c.if-not-old_places_pass.false); recalled = c.old_places_pass.ensures.1 }

pub returns : goal.returns
returns c = (new_decides c.args.tables.now.shape c.args.tables.now.marks.now c.args.tables.now.keys.now c.args.index.now.records.now c.args.index.now.members.now c.args.list_rows.now c.args.list_values.now c.requires.indexed c.requires.listed _ _ c.old_places_pass.ensures.0 (ap not c.if-not-old_places_pass.false) c.new_places_pass.ensures.0, c.new_places_pass.ensures.1)
