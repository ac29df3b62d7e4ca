-- Tests of the pairs between places, after a list.
pub mod Pairs
