-- What is read from a line: the definitions that the contracts of `vector_words` cite.
pub mod Lines
pub mod Words
