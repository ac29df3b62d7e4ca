-- `table_refusals::candidates_fit` meets its contract. Assumes nothing.
use Rattle.assignment_tables.proofs.RefusalLaws.{candidates_over, candidates_counted}
use borrow.Author.Rules.{rules}
use Rattle.table_refusals.proofs.candidates_fit.Goals as goal

pub returns-then-count-gt64 : goal.returns-then-count-gt64
returns-then-count-gt64 c = search (rules, candidates_over)

pub returns : goal.returns
returns c = search (rules, candidates_counted)
