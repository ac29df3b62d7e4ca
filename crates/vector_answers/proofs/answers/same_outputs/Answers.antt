-- `vector_answers::answers::same_outputs` meets its contract. Assumes nothing.
use borrow.Author.Tests.{not-true, not-false}
use Rattle.vector_answers.proofs.AnswerLaws.{other-first, second_decides}
use borrow.Author.Rules.{rules}
use Rattle.vector_answers.proofs.answers.same_outputs.Goals as goal

pub returns-then-not-same_output : goal.returns-then-not-same_output
returns-then-not-same_output c = search (rules, not-true, other-first)

pub returns : goal.returns
returns c = search (rules, not-false, second_decides)
