-- Prospects that a search remembers.
pub mod Memory
