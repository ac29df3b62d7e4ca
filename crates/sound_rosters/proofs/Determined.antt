-- No second result meets a contract of this crate. Assumes nothing.
use Rattle.basics.specs.Promises.{FixesAnswer}
use Rattle.basics.proofs.Promises.{alike}
use Rattle.sound_rosters.proofs.entry

pub roster_sound : FixesAnswer entry.roster_sound.Reads.Post
roster_sound κs a r s e f = alike
