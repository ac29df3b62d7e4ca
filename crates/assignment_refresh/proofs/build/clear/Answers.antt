-- `assignment_refresh::build::clear` meets its contract: zeros, and `empty` in the column of values. Assumes nothing.
use Rattle.assignment_refresh.proofs.Cleared.{records-cleared, members_cleared}
use Rattle.assignment_refresh.proofs.build.clear.Goals as goal

pub returns : goal.returns
returns c = let R = records-cleared c.args.rows c.args.records.now c.fill.new.self c.fill-2.new.self c.requires.records_len.0 (c.fill.ensures.after (λ y h. h)) (c.fill-2.ensures.after (λ y h. h)) in record { records_value = R; members_value = members_cleared c.args.rows c.args.members.now _ _ c.requires.records_len.1 (c.fill-3.ensures.after (λ y h. h)) R }
