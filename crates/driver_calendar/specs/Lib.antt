-- A driver's calendar: the definitions that the contracts of `driver_calendar` cite.
pub mod Calendars
pub mod Recorded
