-- What the functions' proofs share.
pub mod CellLaws
pub mod LookupLaws
pub mod KeyLaws
pub mod RefusalLaws
pub mod NamedLaws
pub mod Determined
