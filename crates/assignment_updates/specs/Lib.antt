-- What building and refreshing leave in the lent slices: the definitions that the contracts of `assignment_updates` cite.
pub mod Refresh
pub mod Runs
pub mod Sums
