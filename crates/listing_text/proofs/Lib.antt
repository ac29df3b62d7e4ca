-- What the functions' proofs share.
pub mod TextLaws
pub mod Determined
