-- What the functions' proofs share.
pub mod WalkLaws
pub mod Determined
