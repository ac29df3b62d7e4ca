-- No second result meets a contract of this crate. Assumes nothing.
use Rattle.basics.specs.Promises.{FixesAnswer}
use Rattle.basics.proofs.Promises.{alike}
use Rattle.listing_room.proofs

pub no_ranks : FixesAnswer proofs.no_ranks.Reads.Post
no_ranks κs a r s e f = alike

pub records_room : FixesAnswer proofs.records_room.Reads.Post
records_room κs a r s e f = alike

pub members_room : FixesAnswer proofs.members_room.Reads.Post
members_room κs a r s e f = alike
