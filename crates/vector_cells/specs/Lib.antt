-- Cells that are set: the definitions that the contracts of `vector_cells` cite.
pub mod Cells
