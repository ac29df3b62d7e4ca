-- No second result meets a contract of this crate. Assumes nothing.
use Rattle.basics.specs.Promises.{FixesAnswer}
use Rattle.basics.proofs.Promises.{alike}
use Rattle.key_places.proofs

pub fits-places : FixesAnswer proofs.fits_places.Reads.Post
fits-places κs a r s e f = alike
