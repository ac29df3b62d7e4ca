-- `engine::calendars::turepawon_driver_calendar` meets its contract. Assumes nothing.
use Rattle.engine.proofs.CodeLaws.{calendar_told_lem}
use Rattle.engine.proofs.calendars.turepawon_driver_calendar.Goals as goal

pub returns : goal.returns
returns c = calendar_told_lem _ _ _ _ _ _ c.driver_calendar-calendar.ensures c.code.ensures c.unwrap_or.ensures
