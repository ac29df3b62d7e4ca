-- Whether rows at hand leave a row clear.
pub mod Clearance
