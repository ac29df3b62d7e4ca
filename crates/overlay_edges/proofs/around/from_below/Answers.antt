-- `overlay_edges::around::from_below` meets its contract. Assumes nothing.
use mathlib.Core.Path.{ap, ◌∙◌}
use mathlib.Core.Bool.{not}
use native.Mathlib.Omega.{arith}
use Rattle.overlay_pairs.proofs.Standing.{from_asks, from_read, next_read, between_there_lem}
use Rattle.overlay_edges.proofs.PlaceLaws.{sides_stop, sides_go}
use Rattle.overlay_edges.proofs.around.from_below.Goals as goal

pub part_from-lefts-requires : goal.part_from-lefts-requires
part_from-lefts-requires c = let both = from_asks _ _ _ _ _ _ _ c.requires.indexed c.requires.listed _ c.by_sequence-part.ensures _ _ _ c.requires.sequence_value.1 in record { named = both.0; records_len = both.1.0; members_value = both.1.1.0; before_value = both.1.1.1 }

pub part_from-here-requires : goal.part_from-here-requires
part_from-here-requires c = let both = from_asks _ _ _ _ _ _ _ c.requires.indexed c.requires.listed _ c.by_sequence-part.ensures _ _ _ (next_read _ _ _ _ _ _ _ c.requires.indexed c.requires.listed _ c.by_sequence-part.ensures _ _ _ _ _ c.requires.sequence_value.0 (c.part_from-lefts.ensures.result_value, c.part_from-lefts.ensures.result_value_2)) in record { named = both.0; records_len = both.1.0; members_value = both.1.1.0; before_value = both.1.1.1 }

pub between-requires : goal.between-requires
between-requires c = record { marked = c.requires.indexed.marked; keys_len = (c.requires.indexed.keys_long, c.requires.listed.as_many); recalled = c.requires.recalled }

pub returns-then-not-between : goal.returns-then-not-between
returns-then-not-between c = (λ B. sides_stop _ _ _ _ _ _ B _ _ (c.between.ensures.0 ∙ between_there_lem _ _ _ _ _ _ _ c.requires.indexed c.requires.listed _ _ _ _ _ (from_read _ _ _ _ _ _ _ c.requires.indexed c.requires.listed _ c.by_sequence-part.ensures _ _ _ _ (c.part_from-lefts.ensures.result_value, c.part_from-lefts.ensures.result_value_2)).0 (from_read _ _ _ _ _ _ _ c.requires.indexed c.requires.listed _ c.by_sequence-part.ensures _ _ _ _ (c.part_from-here.ensures.result_value, c.part_from-here.ensures.result_value_2)).0) (ap not c.if-not-between.true), c.between.ensures.1)

pub overflow_add-next : goal.overflow_add-next
overflow_add-next c = omega (arith, c.part_from-here.ensures.result_value_2.1, c.requires.indexed.marked.small.few_rows)

pub above_passes-requires : goal.above_passes-requires
above_passes-requires c = record { indexed = c.requires.indexed; listed = c.requires.listed; here_value = from_read _ _ _ _ _ _ _ c.requires.indexed c.requires.listed _ c.by_sequence-part.ensures _ _ _ _ (c.part_from-here.ensures.result_value, c.part_from-here.ensures.result_value_2); recalled = c.between.ensures.1 }

pub returns : goal.returns
returns c = (λ B. sides_go _ _ _ _ _ _ B _ _ _ (c.between.ensures.0 ∙ between_there_lem _ _ _ _ _ _ _ c.requires.indexed c.requires.listed _ _ _ _ _ (from_read _ _ _ _ _ _ _ c.requires.indexed c.requires.listed _ c.by_sequence-part.ensures _ _ _ _ (c.part_from-lefts.ensures.result_value, c.part_from-lefts.ensures.result_value_2)).0 (from_read _ _ _ _ _ _ _ c.requires.indexed c.requires.listed _ c.by_sequence-part.ensures _ _ _ _ (c.part_from-here.ensures.result_value, c.part_from-here.ensures.result_value_2)).0) (ap not c.if-not-between.false) (c.above_passes.ensures.0 B), c.above_passes.ensures.1)
