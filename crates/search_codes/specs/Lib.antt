-- A search as numbers.
pub mod Codes
