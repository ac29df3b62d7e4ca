-- `vector_answers::left::left` meets its contract. Assumes nothing.
use borrow.Author.Rules.{rules}
use Rattle.vector_answers.proofs.AnswerLaws.{left-front, left_behind}
use Rattle.vector_answers.proofs.left.left.Goals as goal

pub returns-then-at-front : goal.returns-then-at-front
returns-then-at-front c = search (rules, left-front)

pub returns : goal.returns
returns c = search (rules, left_behind)
