-- What the functions' proofs share.
pub mod PlainLaws
pub mod BlockerLaws
pub mod ProspectLaws
pub mod JudgeLaws
pub mod SideLaws
pub mod AroundLaws
pub mod AfterLaws
pub mod FreeLaws
pub mod DisplaceLaws
pub mod Determined
