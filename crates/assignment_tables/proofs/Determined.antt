-- No second result meets a contract of this crate. Assumes nothing.
use Rattle.basics.specs.Promises.{Fixes, FixesAnswer, ◌&◌}
use Rattle.basics.proofs.Promises.{alike, both}
use Rattle.assignment_tables.proofs
use Rattle.assignment_tables.proofs.candidates
use Rattle.assignment_tables.proofs.cells
use Rattle.assignment_tables.proofs.edits
use Rattle.assignment_tables.proofs.layout
use Rattle.assignment_tables.proofs.lookup

pub candidate_count : FixesAnswer candidates.candidate_count.Reads.Post
candidate_count κs a r s e f = alike

pub first_candidates : Fixes candidates.first_candidates.Reads.Post λ κs r e. r.now
first_candidates κs a r s e f = alike

pub candidate_values : Fixes candidates.candidate_values.Reads.Post λ κs r e. r.now
candidate_values κs a r s e f = alike

pub row-flag : FixesAnswer cells.row_flag.Reads.Post
row-flag κs a r s e f = alike

pub cell : FixesAnswer cells.cell.Reads.Post
cell κs a r s e f p q = alike p.0 q.0

pub cell-flag : FixesAnswer cells.cell_flag.Reads.Post
cell-flag κs a r s e f = alike

pub cell-key : FixesAnswer cells.cell_key.Reads.Post
cell-key κs a r s e f = alike

pub row_rank : FixesAnswer cells.row_rank.Reads.Post
row_rank κs a r s e f = alike

pub first-named : FixesAnswer edits.first_named.Reads.Post
first-named κs a r s e f = alike

pub required_start : FixesAnswer layout.required_start.Reads.Post
required_start κs a r s e f = alike

pub may_empty_start : FixesAnswer layout.may_empty_start.Reads.Post
may_empty_start κs a r s e f = alike

pub position_given_start : FixesAnswer layout.position_given_start.Reads.Post
position_given_start κs a r s e f = alike

pub order-given_start : FixesAnswer layout.order_given_start.Reads.Post
order-given_start κs a r s e f = alike

pub counts_start : FixesAnswer layout.counts_start.Reads.Post
counts_start κs a r s e f = alike

pub candidates_start_lem : FixesAnswer layout.candidates_start.Reads.Post
candidates_start_lem κs a r s e f = alike

pub legal_start : FixesAnswer layout.legal_start.Reads.Post
legal_start κs a r s e f = alike

pub capacity-given_start : FixesAnswer layout.capacity_given_start.Reads.Post
capacity-given_start κs a r s e f = alike

pub sequence-given_start : FixesAnswer layout.sequence_given_start.Reads.Post
sequence-given_start κs a r s e f = alike

pub edges_start : FixesAnswer layout.edges_start.Reads.Post
edges_start κs a r s e f = alike

pub marks-length : FixesAnswer layout.marks_length.Reads.Post
marks-length κs a r s e f = alike

pub capacity_start : FixesAnswer layout.capacity_start.Reads.Post
capacity_start κs a r s e f = alike

pub sequence_start : FixesAnswer layout.sequence_start.Reads.Post
sequence_start κs a r s e f = alike

pub keys_length : FixesAnswer layout.keys_length.Reads.Post
keys_length κs a r s e f = alike

pub position_start : FixesAnswer layout.position_start.Reads.Post
position_start κs a r s e f = alike

pub order_start : FixesAnswer layout.order_start.Reads.Post
order_start κs a r s e f = alike

pub ranks-length : FixesAnswer layout.ranks_length.Reads.Post
ranks-length κs a r s e f = alike

pub is_required : FixesAnswer lookup.is_required.Reads.Post
is_required κs a r s e f = alike

pub may_be_empty : FixesAnswer lookup.may_be_empty.Reads.Post
may_be_empty κs a r s e f = alike

pub position_key : FixesAnswer lookup.position_key.Reads.Post
position_key κs a r s e f = alike

pub entity_order-key : FixesAnswer lookup.entity_order_key.Reads.Post
entity_order-key κs a r s e f = alike

pub value-is_legal : FixesAnswer lookup.value_is_legal.Reads.Post
value-is_legal κs a r s e f = alike

pub capacity-key : FixesAnswer lookup.capacity_key.Reads.Post
capacity-key κs a r s e f = alike

pub sequence-key : FixesAnswer lookup.sequence_key.Reads.Post
sequence-key κs a r s e f = alike

pub has_assignment_rule : FixesAnswer lookup.has_assignment_rule.Reads.Post
has_assignment_rule κs a r s e f = alike

pub assignment_edge_allowed : FixesAnswer lookup.assignment_edge_allowed.Reads.Post
assignment_edge_allowed κs a r s e f = alike

-- the shape, and what stands in the three slices
pub new : Fixes proofs.Tables.new.Reads.Post λ κs r e. r.shape & r.marks.now & r.keys.now & r.ranks.now
new κs a r s e f p q = both (alike p.0 q.0) (both (alike p.1.0 q.1.0) (both (alike p.1.1.0 q.1.1.0) (alike p.1.1.1 q.1.1.1)))
