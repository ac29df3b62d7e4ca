-- A driver's calendar: its text, folded and unfolded, and reading it back.
pub mod Folding
pub mod Texts
pub mod DateTexts
pub mod Stamps
pub mod Format
pub mod Slices
pub mod Reading
