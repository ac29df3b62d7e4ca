-- No second result meets a contract of this crate. Assumes nothing.
use Rattle.basics.specs.Promises.{Fixes, ◌&◌}
use Rattle.basics.proofs.Promises.{alike, both}
use Rattle.listing_moves.proofs

-- the answer and `out`
pub write_listing : Fixes proofs.write_listing.Reads.Post λ κs r e. r & e.1.1.1.0.now
write_listing κs a r s e f p q = both (alike p.place q.place) (alike p.bytes q.bytes)
