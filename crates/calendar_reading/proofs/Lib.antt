-- What the functions' proofs share, and what follows from the promises.
pub mod ToldLaws
pub mod OctetLaws
pub mod TextLaws
pub mod EventLaws
pub mod EntryLaws
pub mod Determined
