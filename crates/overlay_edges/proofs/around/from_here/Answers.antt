-- `overlay_edges::around::from_here` meets its contract. Assumes nothing.
use Rattle.overlay_pairs.proofs.Standing.{from_asks, from_read}
use Rattle.overlay_edges.proofs.around.from_here.Goals as goal

pub part_from-here-requires : goal.part_from-here-requires
part_from-here-requires c = let both = from_asks _ _ _ _ _ _ _ c.requires.indexed c.requires.listed _ c.by_sequence-part.ensures _ _ _ c.requires.start_value in record { named = both.0; records_len = both.1.0; members_value = both.1.1.0; before_value = both.1.1.1 }

pub above_passes-requires : goal.above_passes-requires
above_passes-requires c = record { indexed = c.requires.indexed; listed = c.requires.listed; here_value = from_read _ _ _ _ _ _ _ c.requires.indexed c.requires.listed _ c.by_sequence-part.ensures _ _ _ _ (c.part_from-here.ensures.result_value, c.part_from-here.ensures.result_value_2); recalled = c.requires.recalled }
