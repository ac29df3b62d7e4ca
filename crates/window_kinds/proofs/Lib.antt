-- What the functions' proofs share, which windows there are, what a walk over them gives, and that no second result meets a promise.
pub mod CursorLaws
pub mod AheadLaws
pub mod StepLaws
pub mod PositionLaws
pub mod WalkLaws
pub mod Walked
pub mod Determined
