-- What the functions' proofs share, here and in the crates above.
pub mod InTurn
pub mod MemoryLaws
pub mod PairLaws
pub mod Sides
pub mod Standing
pub mod Determined
