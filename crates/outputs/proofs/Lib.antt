-- What loops that write lists share, cells to work in, and that no second result meets a contract.
pub mod Writing
pub mod CellLaws
pub mod Determined
