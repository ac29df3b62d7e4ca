-- How much room there is, and that no second result meets a contract.
pub mod RoomLaws
pub mod Determined
