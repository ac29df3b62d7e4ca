-- `path_blockers::least::allows` meets its contract. Assumes nothing.
use Rattle.path_blockers.proofs.SoughtLaws.{unseen, pair_right, pair_left}
use borrow.Author.Rules.{rules}
use Rattle.path_blockers.proofs.least.allows.Goals as goal

pub returns-then-not-is_unlisted : goal.returns-then-not-is_unlisted
returns-then-not-is_unlisted c = search (rules, unseen)

pub returns-then-right : goal.returns-then-right
returns-then-right c = search (rules, pair_right)

pub returns : goal.returns
returns c = search (rules, pair_left)
