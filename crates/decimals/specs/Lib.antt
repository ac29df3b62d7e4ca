-- Decimals as bytes, and fields: the definitions that the contracts of `decimals` cite.
pub mod Decimals
pub mod Reading
pub mod Fields
