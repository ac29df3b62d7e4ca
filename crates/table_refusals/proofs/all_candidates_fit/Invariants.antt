-- `table_refusals::all_candidates_fit` meets its contract. The loop's invariant: all before have passed. Assumes nothing.
use mathlib.Core.Path.{◌≡◌}
use mathlib.Core.Bool.{true}
use Rattle.basics.specs.Tests.{all_below}
use Rattle.assignment_tables.specs.Refusal.{candidates_fit}
use Rattle.table_refusals.proofs.all_candidates_fit.Given as goal

abbrev pub invariant-loop-row : goal.invariant-loop-row
invariant-loop-row l = all_below l.row (candidates_fit l.tables.shape l.tables.marks.now) ≡ true
