-- What a membership is, and which one the tables of a roster give.
pub mod Cells
pub mod Canonical
