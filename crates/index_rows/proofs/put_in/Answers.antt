-- `index_rows::put_in` meets its contract. Each step asks and leaves what the laws of `Changes` say of it. Assumes nothing.
use lib.Dec.{lit<}
use Rattle.assignment_index.proofs.Changes.{records_long, records-after, in_none, joins, one_more_lem, members_joined}
use Rattle.index_rows.proofs.put_in.Goals as goal

pub write_row-requires : goal.write_row-requires
write_row-requires c = record { marked = c.requires.indexed.marked; keys_len = (c.requires.indexed.keys_long, records_long _ _ _ _ _ c.requires.indexed, c.requires.row_lt_rows.0) }

pub join-requires : goal.join-requires
join-requires c = let both = joins _ _ _ _ _ c.requires.indexed _ _ c.requires.row_lt_rows.0 c.requires.row_lt_rows.1 _ c.write_row.ensures 0 (lit< tt) _ (in_none _ _ _ _ _ c.requires.indexed _ _ c.requires.row_lt_rows.0 c.requires.row_lt_rows.1 _ c.write_row.ensures) _ c.by_capacity.ensures in record { named = both.0; records_len = both.1.0; members_value = both.1.1 }

pub join-requires-2 : goal.join-requires-2
join-requires-2 c = let both = joins _ _ _ _ _ c.requires.indexed _ _ c.requires.row_lt_rows.0 c.requires.row_lt_rows.1 _ c.write_row.ensures 1 (lit< tt) _ (one_more_lem _ _ _ _ _ c.requires.indexed _ _ c.requires.row_lt_rows.0 c.requires.row_lt_rows.1 _ c.write_row.ensures 0 (lit< tt) _ _ (in_none _ _ _ _ _ c.requires.indexed _ _ c.requires.row_lt_rows.0 c.requires.row_lt_rows.1 _ c.write_row.ensures) _ c.by_capacity.ensures c.join.ensures) _ c.by_value.ensures in record { named = both.0; records_len = both.1.0; members_value = both.1.1 }

pub join-requires-3 : goal.join-requires-3
join-requires-3 c = let both = joins _ _ _ _ _ c.requires.indexed _ _ c.requires.row_lt_rows.0 c.requires.row_lt_rows.1 _ c.write_row.ensures 2 (lit< tt) _ (one_more_lem _ _ _ _ _ c.requires.indexed _ _ c.requires.row_lt_rows.0 c.requires.row_lt_rows.1 _ c.write_row.ensures 1 (lit< tt) _ _ (one_more_lem _ _ _ _ _ c.requires.indexed _ _ c.requires.row_lt_rows.0 c.requires.row_lt_rows.1 _ c.write_row.ensures 0 (lit< tt) _ _ (in_none _ _ _ _ _ c.requires.indexed _ _ c.requires.row_lt_rows.0 c.requires.row_lt_rows.1 _ c.write_row.ensures) _ c.by_capacity.ensures c.join.ensures) _ c.by_value.ensures c.join-2.ensures) _ c.by_sequence.ensures in record { named = both.0; records_len = both.1.0; members_value = both.1.1 }

pub returns : goal.returns
returns c = let e = c.write_row.ensures in record { records_value = records-after _ _ _ _ _ c.requires.indexed _ _ c.requires.row_lt_rows.0 _ e; members_value = members_joined _ _ _ _ _ c.requires.indexed _ _ c.requires.row_lt_rows.0 c.requires.row_lt_rows.1 _ e _ (one_more_lem _ _ _ _ _ c.requires.indexed _ _ c.requires.row_lt_rows.0 c.requires.row_lt_rows.1 _ e 2 (lit< tt) _ _ (one_more_lem _ _ _ _ _ c.requires.indexed _ _ c.requires.row_lt_rows.0 c.requires.row_lt_rows.1 _ e 1 (lit< tt) _ _ (one_more_lem _ _ _ _ _ c.requires.indexed _ _ c.requires.row_lt_rows.0 c.requires.row_lt_rows.1 _ e 0 (lit< tt) _ _ (in_none _ _ _ _ _ c.requires.indexed _ _ c.requires.row_lt_rows.0 c.requires.row_lt_rows.1 _ e) _ c.by_capacity.ensures c.join.ensures) _ c.by_value.ensures c.join-2.ensures) _ c.by_sequence.ensures c.join-3.ensures) }
