-- `rematch_shift::write_shifted` meets its contract. The loop's invariant: writing what is left of the values comes to what is asked. Assumes nothing.
use lib.ListN.{drop}
use Rattle.outputs.proofs.Writing.{Writing}
use Rattle.assignment_index.specs.Index.{roster_in}
use Rattle.rematch_shift.specs.Shift.{shifted_values}
use Rattle.rematch_shift.proofs.write_shifted.Given as goal

abbrev pub invariant-loop-i : goal.invariant-loop-i
invariant-loop-i l = Writing l.out l.i (drop l.i (shifted_values (roster_in l.rows l.records) l.window l.shift)) l.initial.out 0 (shifted_values (roster_in l.rows l.records) l.window l.shift)
