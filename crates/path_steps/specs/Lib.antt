-- What a step of the search finds and leaves.
pub mod Prospects
pub mod Judging
pub mod Lists
