-- Bits of a word, and rows as bits.
pub mod Bits
pub mod Marks
