-- `listing_tables::tables::fill_keys` meets its contract. Assumes nothing.
use Rattle.listing_tables.proofs.FillLaws.{keys_filled}
use Rattle.listing_tables.proofs.tables.fill_keys.Goals as goal

pub returns : goal.returns
returns c = keys_filled c.args.shape c.args.cells.now c.args.count _ c.args.keys.now _ _ _ c.sequence_start-sequence.ensures c.requires.count_bound.1 (c.fill.ensures.after (λ y e. e)) c.fill_numbers.ensures c.fill_numbers-2.ensures
