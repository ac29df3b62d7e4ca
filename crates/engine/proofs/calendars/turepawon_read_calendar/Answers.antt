-- `engine::calendars::turepawon_read_calendar` meets its contract. Assumes nothing.
use Rattle.engine.proofs.CodeLaws.{duties-told}
use Rattle.engine.proofs.calendars.turepawon_read_calendar.Goals as goal

pub returns : goal.returns
returns c = duties-told _ _ _ _ _ _ _ c.read_calendar-calendar.ensures c.code.ensures c.unwrap_or.ensures
