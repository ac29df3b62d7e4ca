-- No second result meets a contract of this crate. Assumes nothing.
use mathlib.Core.Path.{ap}
use Rattle.basics.specs.Promises.{Fixes, ◌&◌}
use Rattle.basics.proofs.Promises.{alike}
use Rattle.calendar_reading.proofs.calendar

-- the answer, `out_rows` and `out_days`
pub read_calendar : Fixes calendar.read_calendar.Reads.Post λ κs r e. r & e.1.0.now & e.1.1.0.now
read_calendar κs a r s e f p q = ap (λ x. x.answer & x.rows & x.days) (alike p q)
