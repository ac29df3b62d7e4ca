-- `vector_words::ahead` meets its contract. Assumes nothing.
use Rattle.vector_words.proofs.WordLaws.{ahead_last, ahead_sum}
use borrow.Author.Rules.{rules}
use Rattle.vector_words.proofs.ahead.Goals as goal

pub returns-then-at-more : goal.returns-then-at-more
returns-then-at-more c = search (rules, ahead_last)

pub returns : goal.returns
returns c = search (rules, ahead_sum)
