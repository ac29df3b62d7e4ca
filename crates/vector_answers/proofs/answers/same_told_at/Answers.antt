-- `vector_answers::answers::same_told_at` meets its contract. Assumes nothing.
use Rattle.vector_answers.specs.Answers.{same_told_at}
use Rattle.vector_differences.proofs.SamenessLaws.{compared}
use borrow.Author.Rules.{rules}
use Rattle.vector_answers.proofs.answers.same_told_at.Goals as goal

pub returns : goal.returns
unfolding same_told_at
returns c = search (rules, compared)
