-- What a walk of alternatives is.
pub mod Walks
