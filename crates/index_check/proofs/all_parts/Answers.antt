-- `index_check::all_parts` meets its contract: the members are the same where the three parts are. Assumes nothing.
use mathlib.Core.Path.{ap}
use mathlib.Core.Bool.{not}
use Rattle.assignment_index.proofs.Changes.{part-named}
use Rattle.assignment_index.proofs.Comparing.{first_fails, second_fails, third_decides}
use Rattle.index_check.proofs.all_parts.Goals as goal

pub is_part-requires : goal.is_part-requires
is_part-requires c = rw c.by_capacity.ensures (record { named = part-named _ 0 c.requires.rows_bound; records_len = c.requires.records_len })

pub returns-then-not-is_part : goal.returns-then-not-is_part
returns-then-not-is_part c = first_fails c.args.rows c.args.index.now.records.now c.args.index.now.members.now c.requires.records_len.1 _ (rw c.by_capacity.ensures at c.is_part.ensures) (ap not c.if-not-is_part.true)

pub is_part-requires-2 : goal.is_part-requires-2
is_part-requires-2 c = rw c.by_value.ensures (record { named = part-named _ 1 c.requires.rows_bound; records_len = c.requires.records_len })

pub returns-then-not-is_part-2 : goal.returns-then-not-is_part-2
returns-then-not-is_part-2 c = second_fails c.args.rows c.args.index.now.records.now c.args.index.now.members.now c.requires.records_len.1 _ (rw c.by_capacity.ensures at c.is_part.ensures) (ap not c.if-not-is_part.false) _ (rw c.by_value.ensures at c.is_part-2.ensures) (ap not c.if-not-is_part-2.true)

pub is_part-requires-3 : goal.is_part-requires-3
is_part-requires-3 c = rw c.by_sequence.ensures (record { named = part-named _ 2 c.requires.rows_bound; records_len = c.requires.records_len })

pub returns : goal.returns
returns c = third_decides c.args.rows c.args.index.now.records.now c.args.index.now.members.now c.requires.records_len.1 _ (rw c.by_capacity.ensures at c.is_part.ensures) (ap not c.if-not-is_part.false) _ (rw c.by_value.ensures at c.is_part-2.ensures) (ap not c.if-not-is_part-2.false) _ (rw c.by_sequence.ensures at c.is_part-3.ensures)
