-- What the entry answers.
pub mod SoundVerdict
