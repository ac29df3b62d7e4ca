-- What the functions' proofs share, what a walk gives, and that no second result meets a promise.
pub mod MoveLaws
pub mod SteppingLaws
pub mod Walked
pub mod Calls
pub mod MoveBuilding
pub mod Examples
pub mod Determined
