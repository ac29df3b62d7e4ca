-- The laws of edit records, and that no second result meets a promise of this crate.
pub mod GatherLaws
pub mod LongLists
pub mod Determined
