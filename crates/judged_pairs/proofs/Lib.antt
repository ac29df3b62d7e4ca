-- Laws of the bits of a word, and of the pairs in a list of words.
pub mod Pairs
pub mod Determined
