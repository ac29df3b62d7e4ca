use Prim.Native.Nat.{◌-◌}
use mathlib.Core.Bool.{true}
use native.Mathlib.Omega.{arith}
use Rattle.basics.proofs.Loops.{all_none, turn_fails, turn_more, turn_end}
use Rattle.rules.specs.Sound.{sound_at, sound_test}
use Rattle.assignment_tables.specs.Tables.{the_board}
use Rattle.assignment_index.specs.Index.{the_roster}
use Rattle.sound_rosters.proofs.sound.sound_test.Goals as goal

pub loop-row-init : goal.loop-row-init
loop-row-init c = (omega arith, all_none _)

pub returns-then-not-row_sound : goal.returns-then-not-row_sound
unfolding sound_test
returns-then-not-row_sound c = turn_fails _ c.loop-row.row (sound_at (the_board c.args.tables.now) (the_roster c.args.tables.now c.args.index.now)) _ c.loop-row-test.true c.row_sound.ensures (c.if-not-row_sound.true)

pub loop-row-preserved : goal.loop-row-preserved
loop-row-preserved c = (omega arith, turn_more c.loop-row.row (sound_at (the_board c.args.tables.now) (the_roster c.args.tables.now c.args.index.now)) _ c.loop-row.invariant.1 c.row_sound.ensures (c.if-not-row_sound.false))

pub returns : goal.returns
unfolding sound_test
returns c = turn_end _ c.loop-row.row (sound_at (the_board c.args.tables.now) (the_roster c.args.tables.now c.args.index.now)) c.loop-row.invariant.0 c.loop-row-test.false c.loop-row.invariant.1
