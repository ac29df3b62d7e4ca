-- What the final test is for, as one statement.
pub mod Demand3
