-- What the functions' proofs share.
pub mod MemoryLaws
pub mod Determined
