-- The laws of the roster file.
pub mod FieldReading
pub mod LineReading
pub mod LinesReading
pub mod ReadBack
pub mod Examples
