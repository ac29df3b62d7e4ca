-- `overlay_pairs::between::new_left_passes` meets its contract. Assumes nothing.
use mathlib.Core.Path.{ap}
use mathlib.Core.Bool.{not}
use Rattle.overlay_pairs.proofs.InTurn.{not_stops, not_goes}
use Rattle.overlay_pairs.proofs.between.new_left_passes.Goals as goal

pub returns-then-not-has_place : goal.returns-then-not-has_place
returns-then-not-has_place c = (not_stops _ _ _ c.has_place.ensures (ap not c.if-not-has_place.true), c.requires.recalled)

pub beside_all-requires : goal.beside_all-requires
beside_all-requires c = record { marked = c.requires.marked; keys_len = c.requires.keys_len; recalled = c.requires.recalled }

pub returns : goal.returns
returns c = (not_goes _ _ _ _ c.has_place.ensures (ap not c.if-not-has_place.false) c.beside_all.ensures.0, c.beside_all.ensures.1)
