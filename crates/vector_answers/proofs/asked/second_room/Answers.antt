-- `vector_answers::asked::second_room` meets its contract. Assumes nothing.
use borrow.Author.Rules.{rules}
use Rattle.vector_answers.specs.Questions.{second_room}
use Rattle.vector_answers.proofs.asked.second_room.Goals as goal

pub returns : goal.returns
unfolding second_room
returns c = search rules
