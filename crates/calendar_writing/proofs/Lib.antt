-- Numbers of so many digits, the pieces of events, and the object, written.
pub mod PaddedLaws
pub mod PieceLaws
pub mod LengthLaws
pub mod Determined
