-- No second result meets a contract of this crate. Assumes nothing.
use Rattle.basics.specs.Promises.{FixesAnswer}
use Rattle.basics.proofs.Promises.{alike}
use Rattle.vector_answers.proofs.answers
use Rattle.vector_answers.proofs.asked

pub same_answer : FixesAnswer answers.same_answer.Reads.Post
same_answer κs a r s e f = alike

pub same_list : FixesAnswer answers.same_list.Reads.Post
same_list κs a r s e f = alike

pub read_question : FixesAnswer asked.read_question.Reads.Post
read_question κs a r s e f = alike

pub number : FixesAnswer asked.number.Reads.Post
number κs a r s e f = alike

pub first-room : FixesAnswer asked.first_room.Reads.Post
first-room κs a r s e f p q = alike p.0 q.0

pub second-room : FixesAnswer asked.second_room.Reads.Post
second-room κs a r s e f p q = alike p.0 q.0
