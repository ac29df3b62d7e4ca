-- No second result meets a contract of this crate. Assumes nothing.
use mathlib.Core.Path.{ap}
use Rattle.basics.specs.Promises.{Fixes, ◌&◌}
use Rattle.basics.proofs.Promises.{alike}
use Rattle.driver_calendar.proofs.calendar

-- the answer and `out`
pub write_calendar : Fixes calendar.write_calendar.Reads.Post λ κs r e. r & e.1.1.1.1.0.now
write_calendar κs a r s e f p q = ap (λ x. x.answer & x.out) (alike p q)

-- the answer and `out`
pub driver_calendar : Fixes calendar.driver_calendar.Reads.Post λ κs r e. r & e.1.1.1.1.0.now
driver_calendar κs a r s e f p q = ap (λ x. x.answer & x.out) (alike p q)
