-- What the functions' proofs share, and what follows from the promises.
pub mod RefreshLaws
pub mod Afresh
pub mod Runs
pub mod Totals
pub mod Restored
pub mod Determined
