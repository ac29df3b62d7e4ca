-- The book: what the engine's answers mean, in the order of docs/RULES.md. Hooks are functions here, and never the lent slices.
pub mod Board
pub mod Roster
pub mod Neighbours
pub mod FinalTest
pub mod Sound
pub mod Reinsertion
pub mod Ranks
