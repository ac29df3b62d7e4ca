-- `path_steps::sides::stretch` meets its contract: the rows of one key of the part, or none. Assumes nothing.
use Rattle.path_steps.proofs.SideLaws.{rows_ask, stretch_at, stretch_none}
use Rattle.path_steps.proofs.sides.stretch.Goals as goal

pub part_from-requires : goal.part_from-requires
part_from-requires c = let both = rows_ask c.args.shape _ _ c.requires.sequenced _ c.by_sequence-part.ensures _ _ _ (c.requires.by_index _ c.in-Some.is) in record { named = both.0; records_len = both.1.0; members_value = both.1.1.0; before_value = both.1.1.1 }

pub returns : goal.returns
returns c = let both = stretch_at c.args.shape _ c.args.index.now.members.now c.requires.sequenced _ c.by_sequence-part.ensures _ _ _ _ c.in-Some.is _ (c.part_from.ensures.result_value, c.part_from.ensures.result_value_2) in record { result_value = both.0; by_index_2 = both.1 }

pub returns-in_default : goal.returns-in_default
returns-in_default c = let both = stretch_none c.args.shape c.args.index.now.records.now c.args.index.now.members.now c.args.value c.args.start _ c.in_default.is in record { result_value = both.0; by_index_2 = both.1 }
