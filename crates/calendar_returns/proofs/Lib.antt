-- What is written reads back, by what the two entries answer and leave.
pub mod StandLaws
pub mod Returns
