-- What a walk in one call answers and leaves.
pub mod Runs
