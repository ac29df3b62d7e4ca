-- `vector_answers::answers::same_answer` meets its contract. Assumes nothing.
use borrow.Author.Tests.{not-true, not-false}
use Rattle.vector_answers.proofs.AnswerLaws.{other-code, other-flag, told_decides}
use borrow.Author.Rules.{rules}
use Rattle.vector_answers.proofs.answers.same_answer.Goals as goal

pub returns-then-not-same_number : goal.returns-then-not-same_number
returns-then-not-same_number c = search (rules, not-true, other-code)

pub returns-then-not-same_number-2 : goal.returns-then-not-same_number-2
returns-then-not-same_number-2 c = search (rules, not-true, not-false, other-flag)

pub returns : goal.returns
returns c = search (rules, not-false, told_decides)
