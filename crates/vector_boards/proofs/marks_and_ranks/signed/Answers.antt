-- `vector_boards::marks_and_ranks::signed` meets its contract. Assumes nothing.
use Rattle.vector_boards.proofs.TableLaws.{signed_low, signed_high}
use borrow.Author.Rules.{rules}
use Rattle.vector_boards.proofs.marks_and_ranks.signed.Goals as goal

pub returns-then-number-lt9223372036854775808 : goal.returns-then-number-lt9223372036854775808
returns-then-number-lt9223372036854775808 c = search (rules, signed_low)

pub returns : goal.returns
returns c = search (rules, signed_high)
