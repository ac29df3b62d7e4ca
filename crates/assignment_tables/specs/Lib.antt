-- The definitions that the contracts of `assignment_tables` cite.
pub mod Layout
pub mod Cells
pub mod Tables
pub mod Refusal
