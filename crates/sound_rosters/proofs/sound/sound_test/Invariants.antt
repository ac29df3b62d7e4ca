-- `sound_rosters::sound::sound_test` meets its contract. The loop's invariant: all before have passed. Assumes nothing.
use Prim.Native.Nat.{◌≤◌, ◌-◌}
use mathlib.Core.Path.{◌≡◌}
use mathlib.Core.Bool.{true}
use Rattle.basics.specs.Tests.{all_below}
use Rattle.rules.specs.Sound.{sound_at}
use Rattle.assignment_tables.specs.Tables.{the_board}
use Rattle.assignment_index.specs.Index.{the_roster}
use Rattle.sound_rosters.proofs.sound.sound_test.Given as goal

abbrev pub invariant-loop-row : goal.invariant-loop-row
invariant-loop-row l = (l.row ≤ l.tables.shape.rows) × (all_below l.row (sound_at (the_board l.tables) (the_roster l.tables l.index)) ≡ true)

abbrev pub decreases-loop-row : goal.decreases-loop-row
decreases-loop-row l = l.tables.shape.rows - l.row
