-- What the functions' proofs share, and that no second result meets a promise.
pub mod SoundLaws
pub mod Determined
pub mod Meaning
