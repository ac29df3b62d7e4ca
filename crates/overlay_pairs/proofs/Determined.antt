-- No second result meets a contract of this crate. Of the memory of judged pairs they say only that each remembered pair is allowed. Assumes nothing.
use Rattle.basics.specs.Promises.{FixesAnswer}
use Rattle.basics.proofs.Promises.{alike}
use Rattle.overlay_pairs.proofs.between as betweens
use Rattle.overlay_pairs.proofs.pairs

pub between : FixesAnswer betweens.between.Reads.Post
between κs a r s e f p q = alike p.0 q.0

pub is-listed : FixesAnswer pairs.is_listed.Reads.Post
is-listed κs a r s e f = alike

pub has_place : FixesAnswer pairs.has_place.Reads.Post
has_place κs a r s e f = alike

pub beside-all : FixesAnswer pairs.beside_all.Reads.Post
beside-all κs a r s e f p q = alike p.0 q.0
