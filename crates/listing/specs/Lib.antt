-- The listing program's library: the definitions that the contracts of `listing` cite.
pub mod FileListing
pub mod Steps
