-- What the functions' proofs share.
pub mod CellLaws
pub mod Determined
