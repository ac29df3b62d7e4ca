-- What the entries of both tests answer.
pub mod Verdicts
