-- `vector_answers::asked::number` meets its contract. Assumes nothing.
use Rattle.vector_answers.specs.Questions.{number_of}
use Rattle.vector_answers.proofs.asked.number.Goals as goal

pub returns : goal.returns
unfolding number_of
returns c = cc
