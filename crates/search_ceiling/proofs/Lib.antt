-- What the functions' proofs share, and that no second result meets a contract.
pub mod CeilingLaws
pub mod CodeLaws
pub mod Determined
