-- What the functions' proofs share.
pub mod WindowLaws
pub mod IndexLaws
pub mod EntryLaws
pub mod Determined
pub mod Suffices
