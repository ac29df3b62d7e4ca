-- What the functions' proofs share.
pub mod ArrivalLaws
pub mod RefusingLaws
pub mod Determined
