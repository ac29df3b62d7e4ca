-- What may be concluded of lists that pass.
pub mod Passed
