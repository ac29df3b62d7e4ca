-- What the functions' proofs share.
pub mod ScatterLaws
pub mod FillLaws
pub mod BoardLaws
pub mod RosterLaws
pub mod SameRecords
pub mod Determined
