-- What the functions' proofs share.
pub mod LeastLaws
pub mod RowLaws
pub mod SoughtLaws
pub mod Determined
