-- `assignment_tables::lookup::value_is_legal` meets its contract. Assumes nothing.
use Rattle.assignment_tables.proofs.LookupLaws.{legal_empty, legal_value}
use Rattle.assignment_tables.proofs.lookup.value_is_legal.Goals as goal

pub returns-then-value-eq-EMPTY : goal.returns-then-value-eq-EMPTY
returns-then-value-eq-EMPTY c = search legal_empty

pub returns : goal.returns
returns c = legal_value _ _ _ _ _ c.if-value-eq-EMPTY.false (cc)
