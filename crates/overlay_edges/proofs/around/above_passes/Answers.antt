-- `overlay_edges::around::above_passes` meets its contract. Assumes nothing.
use mathlib.Core.Path.{◌∙◌}
use Rattle.overlay_pairs.proofs.Sides.{any_at, any_none}
use Rattle.rules.specs.Neighbours.{above}
use Rattle.overlay_pairs.proofs.Standing.{from_asks, from_read, above_start, between_there_lem}
use Rattle.overlay_edges.proofs.around.above_passes.Goals as goal

pub part_from-rights-requires : goal.part_from-rights-requires
part_from-rights-requires c = let both = from_asks _ _ _ _ _ _ _ c.requires.indexed c.requires.listed _ c.by_sequence-part.ensures _ _ _ (above_start _ _ _ _ _ _ _ c.requires.indexed c.requires.listed _ _ _ _ _ c.sequence_above.ensures c.in-Some.is c.requires.here_value.1) in record { named = both.0; records_len = both.1.0; members_value = both.1.1.0; before_value = both.1.1.1 }

pub between-requires : goal.between-requires
between-requires c = record { marked = c.requires.indexed.marked; keys_len = (c.requires.indexed.keys_long, c.requires.listed.as_many); recalled = c.requires.recalled }

pub returns : goal.returns
returns c = (λ B. any_at (above B _) _ _ (c.sequence_above.ensures B) _ c.in-Some.is _ (c.between.ensures.0 ∙ between_there_lem _ _ _ _ _ _ _ c.requires.indexed c.requires.listed _ _ _ _ _ c.requires.here_value.0 (from_read _ _ _ _ _ _ _ c.requires.indexed c.requires.listed _ c.by_sequence-part.ensures _ _ _ _ (c.part_from-rights.ensures.result_value, c.part_from-rights.ensures.result_value_2)).0), c.between.ensures.1)

pub returns-in_default : goal.returns-in_default
returns-in_default c = (λ B. any_none (above B _) _ _ (c.sequence_above.ensures B) c.in_default.is, c.requires.recalled)
