-- `civil_dates::is_date` meets its contract. Assumes nothing.
use Rattle.civil_dates.proofs.MonthLaws.{date-tested}
use Rattle.civil_dates.proofs.is_date.Goals as goal

pub returns : goal.returns
returns c = date-tested _ _ c.month_days-days.ensures
