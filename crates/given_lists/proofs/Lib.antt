-- What the functions' proofs share.
pub mod GivingLaws
pub mod Determined
