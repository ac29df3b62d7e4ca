-- What the ceiling of asks answers, and the same as numbers.
pub mod Answer
pub mod Codes
