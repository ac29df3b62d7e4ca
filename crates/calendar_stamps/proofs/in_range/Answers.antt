-- `calendar_stamps::in_range` meets its contract. Assumes nothing.
use Rattle.calendar_format.specs.Stamps.{in_range}
use Rattle.calendar_stamps.proofs.in_range.Goals as goal

pub returns : goal.returns
unfolding in_range
returns c = rw c.month_days-last.ensures
