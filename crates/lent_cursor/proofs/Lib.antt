-- The laws of a lent cursor, and that no second result meets a promise of this crate.
pub mod LentLaws
pub mod Determined
