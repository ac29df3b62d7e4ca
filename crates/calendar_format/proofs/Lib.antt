-- The laws of a driver's calendar; Calendars has those of the whole.
pub mod FoldLaws
pub mod AfterLaws
pub mod RowLaws
pub mod NumberLaws
pub mod DateTextLaws
pub mod StampLaws
pub mod StandingLaws
pub mod EventLaws
pub mod ReadBack
pub mod OneObject
pub mod ShortLines
pub mod NoFold
pub mod SliceLaws
pub mod Lengths
pub mod Calendars
pub mod Examples
