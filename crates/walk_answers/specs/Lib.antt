-- The answers of a walk, and the same as numbers.
pub mod Answers
pub mod Codes
