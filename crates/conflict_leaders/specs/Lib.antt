-- The first row of every shared key: the definitions that the contracts of `conflict_leaders` cite.
pub mod Leaders
