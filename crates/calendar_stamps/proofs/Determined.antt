-- No second result meets a contract of this crate. Assumes nothing.
use Rattle.basics.specs.Promises.{FixesAnswer}
use Rattle.basics.proofs.Promises.{alike}
use Rattle.calendar_stamps.proofs

pub is-stamp : FixesAnswer proofs.is_stamp.Reads.Post
is-stamp κs a r s e f = alike

pub day_of : FixesAnswer proofs.day_of.Reads.Post
day_of κs a r s e f = alike
