-- The roster file: its records and its text, and reading them back.
pub mod Format
pub mod Parsing
