-- `index_check::is_index` meets its contract: the records are the same where each row is right. Assumes nothing.
use mathlib.Core.Path.{ap}
use mathlib.Core.Bool.{not}
use Rattle.assignment_index.proofs.Comparing.{index_fails, index_decides}
use Rattle.index_check.proofs.is_index.Goals as goal

pub returns-then-not-all_recorded : goal.returns-then-not-all_recorded
returns-then-not-all_recorded c = index_fails c.args.tables.now.shape c.args.tables.now.marks.now c.args.tables.now.keys.now c.args.index.now.records.now c.args.index.now.members.now c.requires.keys_len.1 _ c.all_recorded.ensures (ap not c.if-not-all_recorded.true)

pub returns : goal.returns
returns c = index_decides c.args.tables.now.shape c.args.tables.now.marks.now c.args.tables.now.keys.now c.args.index.now.records.now c.args.index.now.members.now c.requires.keys_len.1 _ c.all_recorded.ensures (ap not c.if-not-all_recorded.false) _ c.all_parts.ensures
