-- What the functions' proofs share.
pub mod Determined
pub mod FieldPlaces
pub mod LineLaws
pub mod WordLaws
