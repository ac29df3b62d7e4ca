-- `path_blockers::rows::standing_at` meets its contract. Assumes nothing.
use Rattle.path_blockers.proofs.RowLaws.{sequence_asked, standing_some, standing_none}
use Rattle.path_blockers.proofs.rows.standing_at.Goals as goal

pub part_members-requires : goal.part_members-requires
part_members-requires c = let both = sequence_asked c.args.tables.now.shape _ _ _ _ c.requires _ c.by_sequence-part.ensures in record { named = both.0; records_len = both.1.0; members_value = both.1.1 }

pub returns : goal.returns
returns c = standing_some c.args.tables.now.shape _ _ _ _ c.requires _ _ _ c.in-Some.is _ c.by_sequence-part.ensures _ c.part_members.ensures

pub returns-in_default : goal.returns-in_default
returns-in_default c = standing_none c.args.tables.now.shape _ _ _ _ c.requires _ _ c.in_default.is
