-- Which of two members comes first.
pub mod Codes
