-- What the functions' proofs share.
pub mod CalendarLaws
pub mod Within
pub mod Determined
