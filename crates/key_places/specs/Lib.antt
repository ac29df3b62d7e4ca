-- Whether a number of holders fits the places of a key.
pub mod Places
