-- Tests, counts, orders and edit lists: the words that every other definition of the project is written in.
pub mod Tests
pub mod Sorting
pub mod Edits
pub mod Promises
pub mod Lent
