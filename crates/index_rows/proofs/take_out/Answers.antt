-- `index_rows::take_out` meets its contract. Each step asks and leaves what the laws of `Changes` say of it. Assumes nothing.
use lib.Dec.{lit<}
use Rattle.assignment_index.proofs.Changes.{records_long, records-after, in_all, leaves, one_less, members_left}
use Rattle.index_rows.proofs.take_out.Goals as goal

pub leave-requires : goal.leave-requires
leave-requires c = let both = leaves _ _ _ _ _ c.requires.indexed _ c.requires.row_lt_rows 0 (lit< tt) _ (in_all _ _ _ _ _ c.requires.indexed _ c.requires.row_lt_rows) _ c.by_capacity.ensures in record { named = both.0; records_len = both.1.0; members_value = both.1.1 }

pub leave-requires-2 : goal.leave-requires-2
leave-requires-2 c = let both = leaves _ _ _ _ _ c.requires.indexed _ c.requires.row_lt_rows 1 (lit< tt) _ (one_less _ _ _ _ _ c.requires.indexed _ c.requires.row_lt_rows 0 (lit< tt) _ _ (in_all _ _ _ _ _ c.requires.indexed _ c.requires.row_lt_rows) _ c.by_capacity.ensures c.leave.ensures) _ c.by_value.ensures in record { named = both.0; records_len = both.1.0; members_value = both.1.1 }

pub leave-requires-3 : goal.leave-requires-3
leave-requires-3 c = let both = leaves _ _ _ _ _ c.requires.indexed _ c.requires.row_lt_rows 2 (lit< tt) _ (one_less _ _ _ _ _ c.requires.indexed _ c.requires.row_lt_rows 1 (lit< tt) _ _ (one_less _ _ _ _ _ c.requires.indexed _ c.requires.row_lt_rows 0 (lit< tt) _ _ (in_all _ _ _ _ _ c.requires.indexed _ c.requires.row_lt_rows) _ c.by_capacity.ensures c.leave.ensures) _ c.by_value.ensures c.leave-2.ensures) _ c.by_sequence.ensures in record { named = both.0; records_len = both.1.0; members_value = both.1.1 }

pub write_row-requires : goal.write_row-requires
write_row-requires c = record { marked = c.requires.indexed.marked; keys_len = (c.requires.indexed.keys_long, records_long _ _ _ _ _ c.requires.indexed, c.requires.row_lt_rows) }

pub returns : goal.returns
returns c = let e = c.write_row.ensures in record { records_value = records-after _ _ _ _ _ c.requires.indexed _ _ c.requires.row_lt_rows _ e; members_value = members_left _ _ _ _ _ c.requires.indexed _ c.requires.row_lt_rows _ (one_less _ _ _ _ _ c.requires.indexed _ c.requires.row_lt_rows 2 (lit< tt) _ _ (one_less _ _ _ _ _ c.requires.indexed _ c.requires.row_lt_rows 1 (lit< tt) _ _ (one_less _ _ _ _ _ c.requires.indexed _ c.requires.row_lt_rows 0 (lit< tt) _ _ (in_all _ _ _ _ _ c.requires.indexed _ c.requires.row_lt_rows) _ c.by_capacity.ensures c.leave.ensures) _ c.by_value.ensures c.leave-2.ensures) _ c.by_sequence.ensures c.leave-3.ensures) _ e }
