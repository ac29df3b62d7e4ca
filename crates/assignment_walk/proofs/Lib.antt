-- What the functions' proofs share, and that a walk gives what the steps give.
pub mod StepReading
pub mod RunLaws
pub mod RunBounds
pub mod WalkingLaws
pub mod SameMoves
pub mod Determined
