-- `vector_answers::asked::first_room` meets its contract. Assumes nothing.
use borrow.Author.Rules.{rules}
use Rattle.vector_answers.specs.Questions.{first_room}
use Rattle.vector_answers.proofs.asked.first_room.Goals as goal

pub returns : goal.returns
unfolding first_room
returns c = search rules
