-- What is lent, as it is read or changed: the definitions that the contracts of `vector_boards` cite.
pub mod Lent
pub mod Tables
