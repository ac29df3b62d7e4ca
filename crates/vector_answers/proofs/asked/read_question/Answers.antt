-- `vector_answers::asked::read_question` meets its contract. Assumes nothing.
use Rattle.vector_answers.proofs.QuestionLaws.{question_read}
use borrow.Author.Rules.{rules}
use Rattle.vector_answers.proofs.asked.read_question.Goals as goal

pub returns : goal.returns
returns c = search (rules, question_read)
