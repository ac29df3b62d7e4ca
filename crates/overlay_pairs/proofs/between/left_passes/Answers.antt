-- `overlay_pairs::between::left_passes` meets its contract. Assumes nothing.
use Rattle.overlay_pairs.proofs.InTurn.{or_stops, or_goes}
use Rattle.overlay_pairs.proofs.between.left_passes.Goals as goal

pub returns-then-is_listed : goal.returns-then-is_listed
returns-then-is_listed c = (or_stops _ _ _ c.is_listed.ensures c.if-is_listed.true, c.requires.recalled)

pub returns : goal.returns
returns c = (or_goes _ _ _ _ c.is_listed.ensures c.if-is_listed.false c.beside_all.ensures.0, c.beside_all.ensures.1)
