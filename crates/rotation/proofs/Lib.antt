-- The laws of going round a list.
pub mod Rotating
pub mod Determined
