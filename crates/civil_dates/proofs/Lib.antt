-- The laws of days and dates.
pub mod PartLaws
pub mod DateLaws
pub mod MonthLaws
pub mod LoopLaws
pub mod Examples
pub mod Determined
