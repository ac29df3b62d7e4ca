-- A lent cursor: the definitions that the contracts of `lent_cursor` cite.
pub mod Lent
