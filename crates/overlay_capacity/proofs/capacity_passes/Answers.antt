-- `overlay_capacity::capacity_passes` meets its contract. Assumes nothing.
use mathlib.Core.Bool.{true}
use Rattle.basics.proofs.Bools.{came}
use Rattle.overlay_capacity.proofs.RoomLaws.{old_fails, new_decides}
use Rattle.overlay_capacity.proofs.capacity_passes.Goals as goal

pub returns-then-not-old_keys_pass : goal.returns-then-not-old_keys_pass
returns-then-not-old_keys_pass c = old_fails c.args.tables.now.shape c.args.tables.now.marks.now c.args.tables.now.keys.now c.args.index.now.records.now c.args.index.now.members.now c.args.list_rows.now c.args.list_values.now c.requires.indexed c.requires.listed _ c.old_keys_pass.ensures (c.if-not-old_keys_pass.true)

pub new_keys_pass-requires : goal.new_keys_pass-requires
new_keys_pass-requires c = record { indexed = c.requires.indexed; listed = c.requires.listed; list_values_value = came _ _ true c.old_keys_pass.ensures (c.if-not-old_keys_pass.false) }

pub returns : goal.returns
returns c = new_decides c.args.tables.now.shape c.args.tables.now.marks.now c.args.tables.now.keys.now c.args.index.now.records.now c.args.index.now.members.now c.args.list_rows.now c.args.list_values.now c.requires.indexed c.requires.listed _ _ c.old_keys_pass.ensures (c.if-not-old_keys_pass.false) c.new_keys_pass.ensures
