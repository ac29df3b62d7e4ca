-- What reading a calendar answers: the definitions that the contracts of `calendar_reading` cite.
pub mod Places
pub mod Events
pub mod Reading
