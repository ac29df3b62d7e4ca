-- What the functions' proofs share.
pub mod LineLaws
pub mod HeaderLaws
pub mod CellLaws
pub mod AgreementLaws
pub mod RosterLaws
pub mod Determined
