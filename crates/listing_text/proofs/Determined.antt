-- No second result meets a contract of this crate. Assumes nothing.
use Rattle.basics.specs.Promises.{Fixes, ◌&◌}
use Rattle.basics.proofs.Promises.{alike, both}
use Rattle.listing_text.proofs.moves
use Rattle.listing_text.proofs.pieces

-- the answer and `out`
pub write_header : Fixes moves.write_header.Reads.Post λ κs r e. r & e.0.now
write_header κs a r s e f p q = both (alike p.place q.place) (alike p.bytes q.bytes)

-- the answer and `out`
pub write_refusal : Fixes moves.write_refusal.Reads.Post λ κs r e. r & e.0.now
write_refusal κs a r s e f p q = both (alike p.place q.place) (alike p.bytes q.bytes)

-- the answer and `out`
pub write_move : Fixes moves.write_move.Reads.Post λ κs r e. r & e.0.now
write_move κs a r s e f p q = both (alike p.place q.place) (alike p.bytes q.bytes)

-- the answer and `out`
pub write_field : Fixes pieces.write_field.Reads.Post λ κs r e. r & e.0.now
write_field κs a r s e f p q = both (alike p.place q.place) (alike p.bytes q.bytes)

-- the answer and `out`
pub write_last : Fixes pieces.write_last.Reads.Post λ κs r e. r & e.0.now
write_last κs a r s e f p q = both (alike p.place q.place) (alike p.bytes q.bytes)
