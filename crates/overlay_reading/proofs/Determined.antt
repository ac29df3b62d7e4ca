-- No second result meets a contract of this crate. Assumes nothing.
use mathlib.Core.List.{[]}
use Rattle.basics.specs.Promises.{FixesAnswer}
use Rattle.basics.proofs.Promises.{alike}
use Rattle.overlay_reading.proofs
use Rattle.rules.specs.Board.{empty}
use Rattle.rules.specs.Roster.{Roster}

-- neither keys nor a roster are read, so any tell
nobody : Roster
nobody r = empty

pub list_reads : FixesAnswer proofs.list_reads.Reads.Post
list_reads κs a r s e f p q = alike (p [] nobody) (q [] nobody)
