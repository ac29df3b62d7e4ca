-- What the functions' proofs share, and what follows from the promises.
pub mod EjectedLaws
pub mod Determined
pub mod Examples
