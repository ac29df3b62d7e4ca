-- What the functions' proofs share, here and in the crates above.
pub mod StepLaws
pub mod Determined
