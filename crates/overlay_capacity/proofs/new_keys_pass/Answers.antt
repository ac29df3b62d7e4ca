use Rattle.basics.proofs.Loops.{all_none, turn_fails, turn_more, turn_end}
use Rattle.assignment_tables.specs.Tables.{the_board}
use Rattle.assignment_index.specs.Index.{the_roster}
use Rattle.overlay_capacity.specs.Capacity.{new_room}
use Rattle.overlay_capacity.proofs.new_keys_pass.Goals as goal

pub loop-i-init : goal.loop-i-init
loop-i-init c = all_none _

pub new_passes-requires : goal.new_passes-requires
new_passes-requires c = record { indexed = c.requires.indexed; listed = c.requires.listed; list_values_value = c.requires.list_values_value; i_in_bounds = c.loop-i-test.true }

pub returns-then-not-new_passes : goal.returns-then-not-new_passes
returns-then-not-new_passes c = turn_fails _ c.loop-i.i (new_room (the_board c.args.tables.now) (the_roster c.args.tables.now c.args.index.now) c.args.list_rows.now c.args.list_values.now) _ c.loop-i-test.true c.new_passes.ensures (c.if-not-new_passes.true)

pub loop-i-preserved : goal.loop-i-preserved
loop-i-preserved c = turn_more c.loop-i.i (new_room (the_board c.args.tables.now) (the_roster c.args.tables.now c.args.index.now) c.args.list_rows.now c.args.list_values.now) _ c.loop-i.invariant c.new_passes.ensures (c.if-not-new_passes.false)

pub returns : goal.returns
returns c = turn_end _ c.loop-i.i (new_room (the_board c.args.tables.now) (the_roster c.args.tables.now c.args.index.now) c.args.list_rows.now c.args.list_values.now) c.loop-i.auto.i-end c.loop-i-test.false c.loop-i.invariant
