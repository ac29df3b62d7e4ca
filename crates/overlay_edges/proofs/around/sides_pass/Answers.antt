-- `overlay_edges::around::sides_pass` meets its contract. Assumes nothing.
use Rattle.overlay_pairs.specs.Pairs.{after_list}
use Rattle.overlay_pairs.proofs.Standing.{place_asks, start_read, below_start}
use Rattle.overlay_edges.proofs.PlaceLaws.{sides_at, sides_above}
use Rattle.overlay_edges.proofs.around.sides_pass.Goals as goal

pub part_start-first-requires : goal.part_start-first-requires
part_start-first-requires c = let both = place_asks _ _ _ _ _ _ _ c.requires.indexed c.requires.listed _ c.by_sequence-part.ensures in record { named = both.0; records_len = both.1.0; members_value = both.1.1 }

pub from_below-requires : goal.from_below-requires
from_below-requires c = record { indexed = c.requires.indexed; listed = c.requires.listed; sequence_value = (below_start _ _ _ _ _ _ _ c.requires.indexed c.requires.listed _ _ _ c.sequence_below.ensures c.in-Some.is, start_read _ _ _ _ _ _ _ c.requires.indexed c.requires.listed _ c.by_sequence-part.ensures _ _ _ c.part_start-first.ensures); recalled = c.requires.recalled }

pub part_start-start-requires : goal.part_start-start-requires
part_start-start-requires c = let both = place_asks _ _ _ _ _ _ _ c.requires.indexed c.requires.listed _ c.by_sequence-part.ensures in record { named = both.0; records_len = both.1.0; members_value = both.1.1 }

pub from_here-requires : goal.from_here-requires
from_here-requires c = record { indexed = c.requires.indexed; listed = c.requires.listed; start_value = start_read _ _ _ _ _ _ _ c.requires.indexed c.requires.listed _ c.by_sequence-part.ensures _ _ _ c.part_start-start.ensures; recalled = c.requires.recalled }

pub returns-in-Some : goal.returns-in-Some
returns-in-Some c = (λ B. sides_at c.args.tables.now.shape c.args.tables.now.marks.now c.args.tables.now.keys.now (after_list c.args.tables.now.shape c.args.index.now.records.now c.args.list_rows.now c.args.list_values.now) c.args.value c.args.sequence B _ (c.sequence_below.ensures B) _ c.in-Some.is _ (c.from_below.ensures.0 B), c.from_below.ensures.1)

pub returns-in-None : goal.returns-in-None
returns-in-None c = (λ B. sides_above c.args.tables.now.shape c.args.tables.now.marks.now c.args.tables.now.keys.now (after_list c.args.tables.now.shape c.args.index.now.records.now c.args.list_rows.now c.args.list_values.now) c.args.value c.args.sequence B _ (c.sequence_below.ensures B) c.in-None.is _ (c.from_here.ensures.0 B), c.from_here.ensures.1)
