-- What the functions' proofs share.
pub mod Signed
pub mod Determined
