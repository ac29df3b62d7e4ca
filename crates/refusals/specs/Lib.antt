-- The numbers of refusals, answers as numbers, and answers behind refusals.
pub mod Refusals
pub mod Codes
pub mod Answers
