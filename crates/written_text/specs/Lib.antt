-- What is written at a place: the definition that every text's contract cites.
pub mod Wrote
