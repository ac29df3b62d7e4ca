-- A roster file's tables and index: the definitions that the contracts of `filed_rosters` cite.
pub mod Filing
