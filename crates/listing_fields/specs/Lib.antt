-- What the functions answer, in terms of the roster file's text.
pub mod Places
