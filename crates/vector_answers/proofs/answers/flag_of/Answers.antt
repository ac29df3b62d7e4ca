-- `vector_answers::answers::flag_of` meets its contract. Assumes nothing.
use Rattle.vector_answers.specs.Questions.{flag_of}
use Rattle.vector_answers.proofs.answers.flag_of.Goals as goal

pub returns : goal.returns
unfolding flag_of
returns c = cc
