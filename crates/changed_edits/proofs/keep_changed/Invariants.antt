-- `changed_edits::keep_changed` meets its contract. The loop's invariant: writing what is kept of the numbers that are left comes to what is asked. Assumes nothing.
use lib.ListN.{drop}
use Rattle.outputs.proofs.Writing.{Writing}
use Rattle.assignment_index.specs.Index.{roster_in}
use Rattle.changed_edits.specs.Kept.{kept_of}
use Rattle.changed_edits.proofs.keep_changed.Given as goal

abbrev pub invariant-loop-i : goal.invariant-loop-i
invariant-loop-i l = Writing l.out l.at (kept_of (roster_in l.rows l.records) (drop l.i l.list_rows) (drop l.i l.list_values) (drop l.i l.numbers)) l.initial.out 0 (kept_of (roster_in l.rows l.records) l.list_rows l.list_values l.numbers)
