-- What the functions' proofs share.
pub mod ReadLaws
pub mod Determined
