-- What the functions' proofs share, what a walk gives, and that no second result meets a promise.
pub mod MoveLaws
pub mod Walked
pub mod Determined
