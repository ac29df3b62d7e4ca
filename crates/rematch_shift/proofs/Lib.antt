-- What the functions' proofs share.
pub mod ShiftLaws
pub mod Determined
