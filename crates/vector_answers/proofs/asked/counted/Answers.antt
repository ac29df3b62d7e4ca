-- `vector_answers::asked::counted` meets its contract. Assumes nothing.
use Rattle.vector_words.proofs.WordLaws.{counted_words}
use borrow.Author.Rules.{rules}
use Rattle.vector_answers.proofs.asked.counted.Goals as goal

pub returns : goal.returns
returns c = search (rules, counted_words)
