-- `listing_tables::tables::fill_marks` meets its contract. Assumes nothing.
use Rattle.listing_tables.proofs.FillLaws.{marks-filled}
use Rattle.listing_tables.proofs.tables.fill_marks.Goals as goal

pub returns : goal.returns
returns c = marks-filled c.args.shape c.args.cells.now c.args.count _ _ _ c.args.marks.now _ _ _ _ c.legal_start-legal.ensures c.capacity_given_start-capacity.ensures c.sequence_given_start-sequence.ensures c.requires.count_bound.1 (c.fill.ensures.after (λ y e. e)) c.fill_flags.ensures c.fill_flags-2.ensures c.fill_flags-3.ensures
