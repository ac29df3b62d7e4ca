-- `path_blockers::rows::holders_of` meets its contract. Assumes nothing.
use Rattle.path_blockers.proofs.RowLaws.{capacity_asked, holders_at, holders_none}
use Rattle.path_blockers.proofs.rows.holders_of.Goals as goal

pub part_members-requires : goal.part_members-requires
part_members-requires c = let both = capacity_asked c.args.tables.now.shape _ _ _ _ c.requires _ c.by_capacity-part.ensures in record { named = both.0; records_len = both.1.0; members_value = both.1.1 }

pub returns : goal.returns
returns c = holders_at c.args.tables.now.shape _ _ _ _ c.requires _ _ _ c.capacity_key.ensures _ c.in-Some.is _ c.by_capacity-part.ensures _ c.part_members.ensures

pub returns-in_default : goal.returns-in_default
returns-in_default c = holders_none c.args.tables.now.shape _ _ _ _ c.requires _ _ _ c.capacity_key.ensures c.in_default.is
