-- What the functions' proofs share.
pub mod RoomLaws
pub mod CutLaws
pub mod WalkTextLaws
pub mod WalkReading
pub mod WalksLaws
pub mod Determined
