-- `calendar_reading::octets::next_octet` meets its contract. Assumes nothing.
use Rattle.calendar_reading.proofs.OctetLaws.{none_left, octet_there}
use Rattle.calendar_reading.proofs.octets.next_octet.Goals as goal

pub returns-then-bytes-place : goal.returns-then-bytes-place
returns-then-bytes-place c = none_left _ _ _ c.past_folds-place.ensures c.if-bytes-place.true

pub returns : goal.returns
returns c = octet_there _ _ _ c.past_folds-place.ensures c.if-bytes-place.false
