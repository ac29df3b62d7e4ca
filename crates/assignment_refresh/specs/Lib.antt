-- The index of a roster, many rows at once: the definitions that the contracts of `assignment_refresh` cite.
pub mod Refresh
