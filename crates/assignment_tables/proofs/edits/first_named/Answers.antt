-- `assignment_tables::edits::first_named` meets its contract. Assumes nothing.
use native.Mathlib.Omega.{arith}
use Rattle.assignment_tables.proofs.NamedLaws.{none-before}
use Rattle.assignment_tables.proofs.edits.first_named.Goals as goal

pub returns : goal.returns
returns c = none-before _ _ _ (omega arith) c.contains.ensures.value
