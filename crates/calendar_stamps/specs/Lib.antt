-- What the functions answer, in terms of the calendar's texts.
pub mod Fields
