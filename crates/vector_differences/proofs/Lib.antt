-- What the functions' proofs share.
pub mod Determined
pub mod SamenessLaws
