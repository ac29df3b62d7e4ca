-- `assignment_refresh::many::take_all` meets its contract. The loop's invariant: the slices are an index, and taking out what is left gives what is asked. Assumes nothing.
use Rattle.assignment_refresh.proofs.Listing.{Taking}
use Rattle.assignment_refresh.proofs.many.take_all.Given as goal

abbrev pub invariant-loop-taken : goal.invariant-loop-taken
invariant-loop-taken l = Taking l.tables.shape l.tables.marks.now l.tables.keys.now l.initial.records l.list_rows l.records l.members l.taken
