-- The search by path. docs/RULES.md, 6 and 7.
pub mod Blockers
pub mod Search
pub mod Ceiling
pub mod Lifted
