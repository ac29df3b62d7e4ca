-- A driver's calendar of a roster file: the definitions that the contracts of `planner_calendar` cite.
pub mod FileCalendar
