-- What the entry's proof cites, and that no second result meets its promise.
pub mod EntryLaws
pub mod Determined
