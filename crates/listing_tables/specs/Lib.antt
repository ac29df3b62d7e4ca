-- The tables of a roster file: the definitions that the contracts of `listing_tables` cite.
pub mod Filled
