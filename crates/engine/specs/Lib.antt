-- What the exports are asked and answer: all that a caller sees, in one record an export.
pub mod Asked
pub mod Layout
pub mod Told
