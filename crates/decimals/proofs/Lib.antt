-- What the functions' proofs share.
pub mod DigitLaws
pub mod ReadingLaws
pub mod FieldLaws
pub mod WritingLaws
pub mod Determined
