-- `vector_answers::answers::same_list` meets its contract. Assumes nothing.
use borrow.Author.Tests.{not-true, not-false}
use Rattle.vector_answers.proofs.AnswerLaws.{first_fails, then-second}
use borrow.Author.Rules.{rules}
use Rattle.vector_answers.proofs.answers.same_list.Goals as goal

pub returns-then-not-same_answer : goal.returns-then-not-same_answer
returns-then-not-same_answer c = search (rules, not-true, first_fails)

pub returns : goal.returns
returns c = search (rules, not-false, then-second)
