-- What the functions' proofs share, and the laws of rows put in order one by one.
pub mod OrderLaws
pub mod SortLaws
pub mod Determined
