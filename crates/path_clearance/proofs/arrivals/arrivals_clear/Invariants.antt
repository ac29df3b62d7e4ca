-- `path_clearance::arrivals::arrivals_clear` meets its contract. The loop's invariant: all before have passed. Assumes nothing.
use mathlib.Core.Path.{◌≡◌}
use mathlib.Core.Bool.{true}
use Rattle.basics.specs.Tests.{all_below}
use Rattle.assignment_tables.specs.Tables.{the_board}
use Rattle.path_clearance.specs.Clearance.{arrival_clear}
use Rattle.path_clearance.proofs.arrivals.arrivals_clear.Given as goal

abbrev pub invariant-loop-i : goal.invariant-loop-i
invariant-loop-i l = all_below l.i (arrival_clear (the_board l.tables) l.list_rows l.list_values l.row l.value) ≡ true
