-- When a cell is the one expected: the definitions that the contracts of `vector_differences` cite.
pub mod Sameness
