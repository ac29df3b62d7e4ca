-- `assignment_refresh::build::put_each` meets its contract. The loop's invariant: the rows passed hold their values, and no other row holds any. Assumes nothing.
use Rattle.assignment_refresh.proofs.Seating.{Seating}
use Rattle.assignment_refresh.proofs.build.put_each.Given as goal

abbrev pub invariant-loop-row : goal.invariant-loop-row
invariant-loop-row l = Seating l.tables.shape l.tables.marks.now l.tables.keys.now l.roster l.records l.members l.row
