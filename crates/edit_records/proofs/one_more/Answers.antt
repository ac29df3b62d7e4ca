-- `edit_records::one_more` meets its contract. Assumes nothing.
use native.Mathlib.Omega.{arith}
use Rattle.edit_records.proofs.GatherLaws.{more-placed, more_full}
use Rattle.edit_records.proofs.one_more.Goals as goal

pub returns-then-count-room : goal.returns-then-count-room
returns-then-count-room c = let less = c.if-count-room.true in more-placed c.args.lists c.args.edit (omega arith)

pub returns-else-count-room : goal.returns-else-count-room
returns-else-count-room c = let enough = c.if-count-room.false in more_full c.args.lists c.args.edit (omega arith)
