-- `assignment_refresh::build::build` meets its contract: a cleared index is one where nobody holds anything. Assumes nothing.
use Rattle.assignment_refresh.proofs.Cleared.{cleared_indexed, cleared_roster}
use Rattle.assignment_refresh.proofs.build.build.Goals as goal

pub put_each-requires : goal.put_each-requires
put_each-requires c = let k = c.args.tables.now.keys.now in
    let e = c.clear.ensures in record { indexed = cleared_indexed _ _ k c.requires.marked c.requires.keys_len.0 _ _ e.records_value e.members_value; roster_len = (c.requires.keys_len.3, cleared_roster _ _ k c.requires.marked c.requires.keys_len.0 _ _ e.records_value e.members_value) }
