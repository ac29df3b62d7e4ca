-- The index of a roster: the definitions that the contracts of `assignment_index` cite.
pub mod Columns
pub mod Index
