-- No second result meets a contract of this crate. Assumes nothing.
use Rattle.basics.specs.Promises.{FixesAnswer}
use Rattle.basics.proofs.Promises.{alike}
use Rattle.search_codes.proofs

pub limited : FixesAnswer proofs.limited.Reads.Post
limited κs a r s e f = alike

pub displaces : FixesAnswer proofs.displaces.Reads.Post
displaces κs a r s e f = alike

pub search-flag : FixesAnswer proofs.search_flag.Reads.Post
search-flag κs a r s e f = alike

pub search-count : FixesAnswer proofs.search_count.Reads.Post
search-count κs a r s e f = alike

pub search_asks : FixesAnswer proofs.search_asks.Reads.Post
search_asks κs a r s e f = alike
