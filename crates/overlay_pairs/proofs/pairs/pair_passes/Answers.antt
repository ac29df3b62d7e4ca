-- `overlay_pairs::pairs::pair_passes` meets its contract. Assumes nothing.
use Rattle.overlay_pairs.proofs.PairLaws.{pair_itself, pair_right, pair_left}
use borrow.Author.Rules.{rules}
use Rattle.overlay_pairs.proofs.pairs.pair_passes.Goals as goal

pub returns-then-row-other : goal.returns-then-row-other
returns-then-row-other c = search (rules, pair_itself)

pub returns-then-right : goal.returns-then-right
returns-then-right c = search (rules, pair_right)

pub returns : goal.returns
returns c = search (rules, pair_left)
