-- Laws of the definitions, each said once.
pub mod Bools
pub mod Lists
pub mod Below
pub mod Loops
pub mod Edits
pub mod Reordered
pub mod Sorting
pub mod Promises
pub mod Maps
pub mod Options
