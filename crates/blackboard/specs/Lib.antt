-- The boards and rosters of the worked examples, as a caller would lend them.
pub mod Lent
pub mod BoardT
pub mod BoardE
