-- `assignment_refresh::many::put_all` meets its contract. The loop's invariant: the slices are an index, and putting in what is left gives what is asked. Assumes nothing.
use Rattle.assignment_refresh.proofs.Listing.{Putting}
use Rattle.assignment_refresh.proofs.many.put_all.Given as goal

abbrev pub invariant-loop-i : goal.invariant-loop-i
invariant-loop-i l = Putting l.tables.shape l.tables.marks.now l.tables.keys.now l.initial.records l.list_rows l.list_values l.records l.members l.i
