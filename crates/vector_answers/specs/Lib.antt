-- A question and the answer that the list expects: the definitions that the contracts of `vector_answers` cite.
pub mod Answers
pub mod Questions
