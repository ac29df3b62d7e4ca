-- Capacity conflicts: the definitions that the contracts of `assignment_conflicts` cite, and what a list of conflicts is.
pub mod Conflicts
pub mod Recorded
pub mod Listing
pub mod InOrder
