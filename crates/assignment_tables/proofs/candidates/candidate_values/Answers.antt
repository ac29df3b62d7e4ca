-- `assignment_tables::candidates::candidate_values` meets its contract. Assumes nothing.
use Rattle.assignment_tables.proofs.RefusalLaws.{offered-fits}
use Rattle.assignment_tables.proofs.LookupLaws.{offered_in, offered_out}
use borrow.Author.Rules.{rules}
use Rattle.assignment_tables.proofs.candidates.candidate_values.Goals as goal

pub first_candidates-requires : goal.first_candidates-requires
first_candidates-requires c = search (rules, offered-fits)

pub returns-then-row-tables : goal.returns-then-row-tables
returns-then-row-tables c = search (rules, offered_in)

pub returns : goal.returns
returns c = search (rules, offered_out)
