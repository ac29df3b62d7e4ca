-- What reading a list asks.
pub mod Reading
