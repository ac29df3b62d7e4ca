-- `assignment_path::entry::holds_already` meets its contract. Assumes nothing.
use Rattle.assignment_path.proofs.SearchLaws.{holds_not, holds-is}
use Rattle.assignment_path.proofs.entry.holds_already.Goals as goal

pub returns-then-value-eq-EMPTY : goal.returns-then-value-eq-EMPTY
returns-then-value-eq-EMPTY c = holds_not _ _ _ c.if-value-eq-EMPTY.true

pub returns : goal.returns
returns c = holds-is _ _ _ _ c.if-value-eq-EMPTY.false c.value_of.ensures
