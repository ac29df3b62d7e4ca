-- Which lists are given back.
pub mod Passing
