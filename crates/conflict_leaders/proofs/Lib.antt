-- What the functions' proofs share, here and in the crate above.
pub mod SharedLaws
pub mod LeaderLaws
pub mod RunLaws
pub mod ForemostLaws
pub mod Determined
