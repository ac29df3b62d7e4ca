-- `vector_differences::same_number` meets its contract. Assumes nothing.
use borrow.Author.Rules.{rules}
use Rattle.vector_differences.proofs.SamenessLaws.{told_same, told-other}
use Rattle.vector_differences.proofs.same_number.Goals as goal

pub returns-then-expected-seen : goal.returns-then-expected-seen
returns-then-expected-seen c = search (rules, told_same)

pub returns : goal.returns
returns c = search (rules, told-other)
