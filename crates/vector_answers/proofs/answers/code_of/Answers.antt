-- `vector_answers::answers::code_of` meets its contract. Assumes nothing.
use Rattle.vector_answers.specs.Questions.{code_of}
use Rattle.vector_answers.proofs.answers.code_of.Goals as goal

pub returns : goal.returns
unfolding code_of
returns c = cc
