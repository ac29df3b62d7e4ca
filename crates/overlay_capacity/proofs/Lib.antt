-- What the functions' proofs share.
pub mod CapacityLaws
pub mod HolderLaws
pub mod RoomLaws
pub mod Determined
