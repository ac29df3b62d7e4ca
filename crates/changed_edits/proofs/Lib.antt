-- What the functions' proofs share, and what follows from the promises.
pub mod ChangedLaws
pub mod KeptLaws
pub mod Determined
