-- What the functions' proofs share.
pub mod IndexLaws
pub mod FrontLaws
pub mod OpeningLaws
pub mod StandLaws
pub mod Determined
