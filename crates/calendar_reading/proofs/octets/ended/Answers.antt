-- `calendar_reading::octets::ended` meets its contract. Assumes nothing.
use Rattle.calendar_reading.proofs.ToldLaws.{none_there}
use Rattle.calendar_reading.proofs.octets.ended.Goals as goal

pub returns : goal.returns
returns c = none_there _ _ _ c.next_octet.ensures _ c.is_none.ensures
