-- What the search for blockers in the index asks and answers.
pub mod Seeking
