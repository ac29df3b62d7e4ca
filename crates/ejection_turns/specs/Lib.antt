-- Lifting the rows of a window out and putting them back: the definitions that contracts cite.
pub mod Ejection
pub mod Turns
