-- What holds of the search by path.
pub mod Displacing
pub mod Lifting
pub mod Stepping
pub mod Bounds
pub mod Moves
pub mod Ceilings
pub mod Limits
