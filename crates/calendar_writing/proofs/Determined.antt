-- No second result meets a contract of this crate. Assumes nothing.
use Rattle.basics.specs.Promises.{Fixes, FixesAnswer, ◌&◌}
use Rattle.basics.proofs.Promises.{alike, both}
use Rattle.calendar_writing.proofs.events
use Rattle.calendar_writing.proofs.object

-- the answer and `out`
pub write_lead : Fixes events.write_lead.Reads.Post λ κs r e. r & e.0.now
write_lead κs a r s e f p q = both (alike p.place q.place) (alike p.bytes q.bytes)

-- the answer and `out`
pub write_rest : Fixes events.write_rest.Reads.Post λ κs r e. r & e.0.now
write_rest κs a r s e f p q = both (alike p.place q.place) (alike p.bytes q.bytes)

-- the answer and `out`
pub write_event : Fixes events.write_event.Reads.Post λ κs r e. r & e.0.now
write_event κs a r s e f p q = both (alike p.place q.place) (alike p.bytes q.bytes)

pub object-length : FixesAnswer object.object_length.Reads.Post
object-length κs a r s e f = alike

pub all-datable : FixesAnswer object.all_datable.Reads.Post
all-datable κs a r s e f = alike

-- the answer and `out`
pub write_object : Fixes object.write_object.Reads.Post λ κs r e. r & e.0.now
write_object κs a r s e f p q = both (alike p.place q.place) (alike p.bytes q.bytes)
