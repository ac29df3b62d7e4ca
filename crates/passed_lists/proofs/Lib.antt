-- Laws, and the theorem.
pub mod Laws
pub mod Passed
