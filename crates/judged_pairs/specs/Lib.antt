-- Which ordered pairs of rows were judged already.
pub mod Judged
