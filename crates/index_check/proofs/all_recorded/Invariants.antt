-- `index_check::all_recorded` meets its contract. The loop's invariant: the rows passed are right. Assumes nothing.
use mathlib.Core.Path.{◌≡◌}
use mathlib.Core.Bool.{true}
use Rattle.basics.specs.Tests.{all_below}
use Rattle.assignment_index.specs.Index.{row_right}
use Rattle.index_check.proofs.all_recorded.Given as goal

abbrev pub invariant-loop-row : goal.invariant-loop-row
invariant-loop-row l = all_below l.row (row_right l.tables.shape l.tables.marks.now l.tables.keys.now l.records) ≡ true
