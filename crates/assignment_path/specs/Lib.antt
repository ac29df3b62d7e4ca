-- What the search answers.
pub mod Searching
