-- What the functions' proofs share, here and in the crates above.
pub mod CountLaws
pub mod OpenLaws
pub mod Determined
