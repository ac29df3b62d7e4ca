-- `overlay_pairs::pairs::has_place` meets its contract. Assumes nothing.
use Rattle.overlay_pairs.proofs.PairLaws.{elsewhere, at_value}
use borrow.Author.Rules.{rules}
use Rattle.overlay_pairs.proofs.pairs.has_place.Goals as goal

pub returns-then-held-value : goal.returns-then-held-value
returns-then-held-value c = search (rules, elsewhere)

pub returns : goal.returns
returns c = search (rules, at_value)
