-- What an answer leaves in a lent output.
pub mod Outputs
pub mod Giving
