-- `vector_differences::same_word` meets its contract. Assumes nothing.
use borrow.Author.Rules.{rules}
use Rattle.vector_differences.proofs.SamenessLaws.{compared}
use Rattle.vector_differences.specs.Sameness.{same_at}
use Rattle.vector_differences.proofs.same_word.Goals as goal

pub returns : goal.returns
unfolding same_at
returns c = search (rules, compared)
