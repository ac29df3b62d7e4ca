-- `index_check::row_recorded` meets its contract: the first key fails or both are compared. Assumes nothing.
use mathlib.Core.Path.{ap}
use mathlib.Core.Bool.{not}
use Rattle.assignment_index.proofs.Comparing.{row_fails, row-passes}
use Rattle.index_check.proofs.row_recorded.Goals as goal

pub returns-then-not-key_recorded : goal.returns-then-not-key_recorded
returns-then-not-key_recorded c = row_fails c.args.tables.now.shape c.args.tables.now.marks.now c.args.tables.now.keys.now c.args.records.now c.requires.keys_len.1 c.args.row _ c.requires.keys_len.2 c.cell-value.ensures _ c.capacity_key-capacity.ensures _ c.key_recorded.ensures (ap not c.if-not-key_recorded.true)

pub returns : goal.returns
returns c = row-passes c.args.tables.now.shape c.args.tables.now.marks.now c.args.tables.now.keys.now c.args.records.now c.requires.keys_len.1 c.args.row _ c.requires.keys_len.2 c.cell-value.ensures _ c.capacity_key-capacity.ensures _ c.key_recorded.ensures (ap not c.if-not-key_recorded.false) _ c.sequence_key-sequence.ensures _ c.key_recorded-2.ensures
