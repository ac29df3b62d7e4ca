-- Laws of the notions that stand behind a name, for the floors above.
pub mod Sequences
pub mod Ranks
pub mod Rosters
pub mod Places
pub mod Reading
pub mod Holders
pub mod Edges
pub mod Around
pub mod Passing
pub mod Reinserting
pub mod Soundness
