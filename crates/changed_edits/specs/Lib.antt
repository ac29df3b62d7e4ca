-- Edits that change what their row holds: the definitions that contracts cite.
pub mod Changed
pub mod Kept
