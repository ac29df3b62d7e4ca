-- What the functions' proofs share.
pub mod Bits
pub mod VisitingLaws
pub mod Determined
