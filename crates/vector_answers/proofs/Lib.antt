-- What the functions' proofs share.
pub mod AnswerLaws
pub mod Determined
pub mod QuestionLaws
