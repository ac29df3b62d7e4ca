-- What the exports' proofs share, and that no second result meets a promise.
pub mod CodeLaws
pub mod Numbers
pub mod Determined
pub mod LentDetermined
