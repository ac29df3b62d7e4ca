-- What the functions' proofs share.
pub mod LineLaws
pub mod Determined
