-- What the functions' proofs share.
pub mod SearchLaws
pub mod Determined
pub mod Meaning
