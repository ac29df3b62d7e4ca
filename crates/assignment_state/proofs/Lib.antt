-- What the functions' proofs share, and what follows from the promises.
pub mod AdmitLaws
pub mod Determined
