-- Texts written one behind the other.
pub mod WroteLaws
pub mod Determined
