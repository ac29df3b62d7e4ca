-- What the functions' proofs share, here and in the crate above.
pub mod FitLaws
pub mod Determined
