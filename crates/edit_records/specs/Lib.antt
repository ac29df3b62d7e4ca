-- An edit list lent as records: the definitions that the contracts of `edit_records` cite.
pub mod Records
