use Rattle.basics.proofs.Loops.{all_none, turn_fails, turn_more, turn_end}
use Rattle.assignment_tables.specs.Tables.{the_board}
use Rattle.assignment_index.specs.Index.{the_roster}
use Rattle.overlay_capacity.specs.Capacity.{old_room}
use Rattle.overlay_capacity.proofs.old_keys_pass.Goals as goal

pub loop-i-init : goal.loop-i-init
loop-i-init c = all_none _

pub returns-then-not-old_passes : goal.returns-then-not-old_passes
returns-then-not-old_passes c = turn_fails _ c.loop-i.i (old_room (the_board c.args.tables.now) (the_roster c.args.tables.now c.args.index.now) c.args.list_rows.now c.args.list_values.now) _ c.loop-i-test.true c.old_passes.ensures (c.if-not-old_passes.true)

pub loop-i-preserved : goal.loop-i-preserved
loop-i-preserved c = turn_more c.loop-i.i (old_room (the_board c.args.tables.now) (the_roster c.args.tables.now c.args.index.now) c.args.list_rows.now c.args.list_values.now) _ c.loop-i.invariant c.old_passes.ensures (c.if-not-old_passes.false)

pub returns : goal.returns
returns c = turn_end _ c.loop-i.i (old_room (the_board c.args.tables.now) (the_roster c.args.tables.now c.args.index.now) c.args.list_rows.now c.args.list_values.now) c.loop-i.auto.i-end c.loop-i-test.false c.loop-i.invariant
