-- The worked examples that are proved.
pub mod Cases
pub mod Walks
