-- What the functions' proofs share.
pub mod Kept
pub mod Vacated
pub mod Listing
pub mod Cleared
pub mod Seating
pub mod Refreshed
pub mod Determined
