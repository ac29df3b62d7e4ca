-- The listing program's output: the definitions that the contracts of `listing_text` cite.
pub mod Output
