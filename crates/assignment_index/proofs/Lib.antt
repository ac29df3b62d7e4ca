-- What the functions' proofs share.
pub mod ColumnLaws
pub mod Recorded
pub mod Records
pub mod PartLaws
pub mod Changes
pub mod Comparing
pub mod Found
pub mod Determined
