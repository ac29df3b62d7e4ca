-- `vector_words::part_of` meets its contract. Assumes nothing.
use Rattle.vector_words.proofs.WordLaws.{part_turned, part-over, part_there}
use borrow.Author.Rules.{rules}
use Rattle.vector_words.proofs.part_of.Goals as goal

pub returns-then-to-from : goal.returns-then-to-from
returns-then-to-from c = search (rules, part_turned)

pub returns-then-words-to : goal.returns-then-words-to
returns-then-words-to c = search (rules, part-over)

pub returns : goal.returns
returns c = search (rules, part_there)
