-- `vector_answers::left::same_left` meets its contract. Assumes nothing.
use borrow.Author.Rules.{rules}
use Rattle.vector_differences.proofs.SamenessLaws.{compared}
use Rattle.vector_answers.specs.Answers.{same_left}
use Rattle.vector_answers.proofs.left.same_left.Goals as goal

pub returns : goal.returns
unfolding same_left
returns c = search (rules, compared)
