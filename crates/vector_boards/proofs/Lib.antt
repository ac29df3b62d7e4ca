-- What the functions' proofs share.
pub mod Determined
pub mod LentLaws
pub mod TableLaws
