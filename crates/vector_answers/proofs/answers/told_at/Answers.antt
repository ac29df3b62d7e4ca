-- `vector_answers::answers::told_at` meets its contract. Assumes nothing.
use Rattle.vector_answers.proofs.AnswerLaws.{told-front, told-behind}
use borrow.Author.Rules.{rules}
use Rattle.vector_answers.proofs.answers.told_at.Goals as goal

pub returns-then-at-expected : goal.returns-then-at-expected
returns-then-at-expected c = search (rules, told-front)

pub returns : goal.returns
returns c = search (rules, told-behind)
