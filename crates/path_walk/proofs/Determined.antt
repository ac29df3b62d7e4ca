-- No second result meets a contract of this crate. Of the cells behind the list nothing is said, and of the memory only that what it recalls is so. Assumes nothing.
use Rattle.basics.specs.Promises.{Fixes}
use Rattle.basics.proofs.Promises.{alike}
use Rattle.path_walk.proofs.walk
use Rattle.path_entry.specs.Trails.{reply_in}

-- the asks, and the list in front of both slices, if one is found
pub try_row : Fixes walk.try_row.Reads.Post λ κs r e. reply_in r e.1.1.1.1.1.1.1.1.0.now e.1.1.1.1.1.1.1.1.1.0.now
try_row κs a r s e f p q = alike p.0.reply q.0.reply
