-- What the functions' proofs share, and what the rows of a window have in the end.
pub mod TurnLaws
pub mod Meaning
pub mod Determined
