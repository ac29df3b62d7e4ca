-- No second result meets a contract of this crate. Assumes nothing.
use Rattle.basics.specs.Promises.{Fixes, FixesAnswer, ◌&◌}
use Rattle.basics.proofs.Promises.{alike, both}
use Rattle.assignment_index.proofs
use Rattle.assignment_index.proofs.columns
use Rattle.assignment_index.proofs.rows

pub column_start : FixesAnswer columns.column_start.Reads.Post
column_start κs a r s e f p q = alike p.0 q.0

pub held-value : FixesAnswer columns.held_value.Reads.Post
held-value κs a r s e f = alike

pub value_of : FixesAnswer columns.value_of.Reads.Post
value_of κs a r s e f = alike

pub cell : FixesAnswer columns.cell.Reads.Post
cell κs a r s e f = alike

pub part_members : Fixes columns.part_members.Reads.Post λ κs r e. r.now
part_members κs a r s e f = alike

pub part_start : FixesAnswer columns.part_start.Reads.Post
part_start κs a r s e f = alike

pub part-from : Fixes columns.part_from.Reads.Post λ κs r e. r.now
part-from κs a r s e f p q = alike p.0 q.0

pub numbers_of : FixesAnswer rows.numbers_of.Reads.Post
numbers_of κs a r s e f p q = λ i. record { given = alike p.0 q.0 i; number = alike p.1 q.1 i }

pub by_capacity : FixesAnswer rows.by_capacity.Reads.Post
by_capacity κs a r s e f = alike

pub by_value : FixesAnswer rows.by_value.Reads.Post
by_value κs a r s e f = alike

pub by_sequence : FixesAnswer rows.by_sequence.Reads.Post
by_sequence κs a r s e f = alike

-- what stands in the two slices
pub new : Fixes proofs.Index.new.Reads.Post λ κs r e. r.records.now & r.members.now
new κs a r s e f p q = both (alike p.0 q.0) (alike p.1 q.1)
