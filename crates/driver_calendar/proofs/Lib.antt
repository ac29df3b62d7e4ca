-- What the functions' proofs share, and what follows from the promises.
pub mod RecordedLaws
pub mod AnswerLaws
pub mod Determined
