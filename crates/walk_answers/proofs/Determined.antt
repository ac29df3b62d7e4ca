-- No second result meets a contract of this crate. Assumes nothing.
use Rattle.basics.specs.Promises.{FixesAnswer}
use Rattle.basics.proofs.Promises.{alike}
use Rattle.walk_answers.proofs

pub move_fits : FixesAnswer proofs.move_fits.Reads.Post
move_fits κs a r s e f = alike

pub stop : FixesAnswer proofs.stop.Reads.Post
stop κs a r s e f = alike

pub finish : FixesAnswer proofs.finish.Reads.Post
finish κs a r s e f = alike

pub walk-flag : FixesAnswer proofs.codes.walk_flag.Reads.Post
walk-flag κs a r s e f = alike

pub walk_moves : FixesAnswer proofs.codes.walk_moves.Reads.Post
walk_moves κs a r s e f = alike

pub walk-edits : FixesAnswer proofs.codes.walk_edits.Reads.Post
walk-edits κs a r s e f = alike
