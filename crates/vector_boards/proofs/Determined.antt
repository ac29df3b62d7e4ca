-- No second result meets a contract of this crate. Assumes nothing.
use Rattle.basics.specs.Promises.{Fixes, FixesAnswer, ◌&◌}
use Rattle.basics.proofs.Promises.{alike, both}
use Rattle.vector_boards.proofs.board
use Rattle.vector_boards.proofs.marks_and_ranks
use Rattle.vector_boards.proofs.tables

pub nothing : FixesAnswer board.nothing.Reads.Post
nothing κs a r s e f = alike

pub read_lent : FixesAnswer board.read_lent.Reads.Post
read_lent κs a r s e f = alike

-- the answer, the room, the marks, the keys and the ranks
pub read_tables : Fixes board.read_tables.Reads.Post λ κs r e. r & e.1.1.0.now & e.1.1.1.0.now & e.1.1.1.1.0.now & e.1.1.1.1.1.0.now
read_tables κs a r s e f p q =
    both (alike p.0 q.0) (both (alike p.1 q.1) (both (alike p.2 q.2) (both (alike p.3 q.3) (alike p.4 q.4))))

-- records, members and the roster
pub read_index : Fixes board.read_index.Reads.Post λ κs r e. e.1.1.0.now & e.1.1.1.0.now & e.1.1.1.1.0.now
read_index κs a r s e f p q = both (alike p.0 q.0) (both (alike p.1 q.1) (alike p.2 q.2))

-- marks, keys and ranks
pub change_table : Fixes board.change_table.Reads.Post λ κs r e. e.1.1.1.0.now & e.1.1.1.1.0.now & e.1.1.1.1.1.0.now
change_table κs a r s e f p q = both (alike p.0 q.0) (both (alike p.1 q.1) (alike p.2 q.2))

-- records, members and the roster
pub change_index : Fixes board.change_index.Reads.Post λ κs r e. e.1.1.1.0.now & e.1.1.1.1.0.now & e.1.1.1.1.1.0.now
change_index κs a r s e f p q = both (alike p.0 q.0) (both (alike p.1 q.1) (alike p.2 q.2))

-- the answer and the cells
pub table : Fixes tables.table.Reads.Post λ κs r e. r & e.1.1.0.now
table κs a r s e f p q = both (alike p.0 q.0) (alike p.1 q.1)

-- the marks, and the ranks
pub to_marks : Fixes marks_and_ranks.to_marks.Reads.Post λ κs r e. e.1.1.0.now
to_marks κs a r s e f = alike

pub set_mark : Fixes marks_and_ranks.set_mark.Reads.Post λ κs r e. e.0.now
set_mark κs a r s e f = alike

pub to_ranks : Fixes marks_and_ranks.to_ranks.Reads.Post λ κs r e. e.1.1.0.now
to_ranks κs a r s e f = alike

pub set_rank : Fixes marks_and_ranks.set_rank.Reads.Post λ κs r e. e.0.now
set_rank κs a r s e f = alike
