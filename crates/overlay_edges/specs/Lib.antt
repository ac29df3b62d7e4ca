-- Tests of the places that a list touches.
pub mod Edges
