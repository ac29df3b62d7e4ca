-- `overlay_pairs::pairs::arrival_passes` meets its contract. Assumes nothing.
use Rattle.overlay_pairs.proofs.InTurn.{not_stops, not_goes}
use borrow.Author.Rules.{rules}
use Rattle.overlay_pairs.proofs.pairs.arrival_passes.Goals as goal

pub returns-then-not-has_place : goal.returns-then-not-has_place
returns-then-not-has_place c = search (rules, not_stops)

pub returns : goal.returns
returns c = search (rules, not_goes)
