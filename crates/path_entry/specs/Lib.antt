-- What a try leaves and answers.
pub mod Trails
