-- `overlay_pairs::pairs::beside_all` meets its contract. Assumes nothing.
use mathlib.Core.Path.{ap}
use mathlib.Core.Bool.{not}
use Rattle.overlay_pairs.specs.Pairs.{all_there, beside_there}
use Rattle.overlay_pairs.proofs.InTurn.{and_stops, and_goes}
use Rattle.overlay_pairs.proofs.pairs.beside_all.Goals as goal

pub returns-then-not-stayers_pass : goal.returns-then-not-stayers_pass
unfolding all_there beside_there
returns-then-not-stayers_pass c = (and_stops _ _ _ c.stayers_pass.ensures.0 (ap not c.if-not-stayers_pass.true), c.stayers_pass.ensures.1)

pub returns : goal.returns
unfolding all_there beside_there
returns c = (and_goes _ _ _ _ c.stayers_pass.ensures.0 (ap not c.if-not-stayers_pass.false) c.arrivals_pass.ensures.0, c.arrivals_pass.ensures.1)
