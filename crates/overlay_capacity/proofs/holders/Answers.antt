-- `overlay_capacity::holders` meets its contract. Assumes nothing.
use Rattle.overlay_capacity.proofs.HolderLaws.{part_asked, part_held}
use Rattle.overlay_capacity.proofs.holders.Goals as goal

pub part_members-requires : goal.part_members-requires
part_members-requires c = let both = part_asked c.args.rows c.args.index.now.records.now c.args.index.now.members.now c.requires _ c.by_capacity-part.ensures in record { named = both.0; records_len = both.1.0; members_value = both.1.1 }

pub returns : goal.returns
returns c = part_held c.args.rows c.args.index.now.records.now c.args.index.now.members.now c.requires _ _ _ c.by_capacity-part.ensures c.part_members.ensures
