-- What the functions' proofs share, and what follows from the promises.
pub mod GatherLaws
pub mod RecordLaws
pub mod Conflicting
pub mod LeaderLaws
pub mod InOrder
pub mod OrderingLaws
pub mod ListingLaws
pub mod Determined
pub mod Examples
