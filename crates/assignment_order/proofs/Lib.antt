-- What the functions' proofs share, and what follows from the promises.
pub mod OrderedLaws
pub mod Permuted
pub mod Determined
pub mod Examples
