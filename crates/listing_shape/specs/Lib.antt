-- The board of a file's records, how large it is, and what opening a file answers.
pub mod FileBoard
pub mod Counts
pub mod Opening
