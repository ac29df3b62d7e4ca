-- What the functions' proofs share.
pub mod TrailLaws
pub mod EnterLaws
pub mod Determined
