-- No second result meets a contract of this crate. Assumes nothing.
use Rattle.basics.specs.Promises.{Fixes}
use Rattle.basics.proofs.Promises.{alike}
use Rattle.listing_tables.proofs.roster
use Rattle.listing_tables.proofs.tables

-- `roster`
pub fill_roster : Fixes roster.fill_roster.Reads.Post λ κs r e. e.1.1.1.1.0.now
fill_roster κs a r s e f = alike

-- `marks`
pub fill_marks : Fixes tables.fill_marks.Reads.Post λ κs r e. e.1.1.1.0.now
fill_marks κs a r s e f = alike

-- `keys`
pub fill_keys : Fixes tables.fill_keys.Reads.Post λ κs r e. e.1.1.1.0.now
fill_keys κs a r s e f = alike
