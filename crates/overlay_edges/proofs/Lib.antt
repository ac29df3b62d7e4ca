-- What the functions' proofs share.
pub mod PlaceLaws
pub mod RowLaws
pub mod EditLaws
pub mod Determined
