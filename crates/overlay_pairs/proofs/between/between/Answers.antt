-- `overlay_pairs::between::between` meets its contract. Assumes nothing.
use mathlib.Core.Path.{ap}
use mathlib.Core.Bool.{not}
use Rattle.overlay_pairs.specs.Pairs.{all_there, between_there}
use Rattle.overlay_pairs.proofs.InTurn.{and_stops, and_goes}
use Rattle.overlay_pairs.proofs.between.between.Goals as goal

pub returns-then-not-lefts_pass : goal.returns-then-not-lefts_pass
unfolding all_there between_there
returns-then-not-lefts_pass c = (and_stops _ _ _ c.lefts_pass.ensures.0 (ap not c.if-not-lefts_pass.true), c.lefts_pass.ensures.1)

pub returns : goal.returns
unfolding all_there between_there
returns c = (and_goes _ _ _ _ c.lefts_pass.ensures.0 (ap not c.if-not-lefts_pass.false) c.new_lefts_pass.ensures.0, c.new_lefts_pass.ensures.1)
