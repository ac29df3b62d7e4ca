-- The laws that the proofs of `membership`, and those of the crates above it, share.
pub mod Removing
pub mod Reading
pub mod Moves
pub mod Stores
pub mod Lookup
pub mod Flags
pub mod Canonical
pub mod Changes
pub mod Slices
pub mod KeyRows
pub mod Checking
pub mod Examples
pub mod Determined
