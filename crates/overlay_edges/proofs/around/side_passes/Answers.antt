-- `overlay_edges::around::side_passes` meets its contract. Assumes nothing.
use mathlib.Core.Path.{refl, ◌∙◌}
use Rattle.overlay_pairs.proofs.Sides.{any_at, any_none}
use Rattle.overlay_pairs.proofs.Standing.{place_asks, place_read, beside_there_lem}
use Rattle.overlay_edges.proofs.around.side_passes.Goals as goal

pub part_members-others-requires : goal.part_members-others-requires
part_members-others-requires c = let both = place_asks _ _ _ _ _ _ _ c.requires.indexed c.requires.listed _ c.by_sequence-part.ensures in record { named = both.0; records_len = both.1.0; members_value = both.1.1 }

pub beside_all-requires : goal.beside_all-requires
beside_all-requires c = record { marked = c.requires.indexed.marked; keys_len = (c.requires.indexed.keys_long, c.requires.listed.as_many); recalled = c.requires.recalled }

pub returns : goal.returns
returns c = (any_at _ _ _ refl _ c.in-Some.is _ (c.beside_all.ensures.0 ∙ beside_there_lem _ _ _ _ _ _ _ c.requires.indexed c.requires.listed _ _ _ _ _ (place_read _ _ _ _ _ _ _ c.requires.indexed c.requires.listed _ c.by_sequence-part.ensures _ _ _ c.part_members-others.ensures)), c.beside_all.ensures.1)

pub returns-in_default : goal.returns-in_default
returns-in_default c = (any_none _ _ _ refl c.in_default.is, c.requires.recalled)
