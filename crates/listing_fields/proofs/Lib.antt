-- What the functions' proofs share.
pub mod PlaceLaws
pub mod Determined
