-- `overlay_capacity::old_keys_pass` meets its contract. The loop's invariant: all before have passed. Assumes nothing.
use mathlib.Core.Path.{◌≡◌}
use mathlib.Core.Bool.{true}
use Rattle.basics.specs.Tests.{all_below}
use Rattle.assignment_tables.specs.Tables.{the_board}
use Rattle.assignment_index.specs.Index.{the_roster}
use Rattle.overlay_capacity.specs.Capacity.{old_room}
use Rattle.overlay_capacity.proofs.old_keys_pass.Given as goal

abbrev pub invariant-loop-i : goal.invariant-loop-i
invariant-loop-i l = all_below l.i (old_room (the_board l.tables) (the_roster l.tables l.index) l.list_rows l.list_values) ≡ true
