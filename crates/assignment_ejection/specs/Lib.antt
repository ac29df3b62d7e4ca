-- What `ejection_reinsert_edits` answers: the definitions that the contracts of `assignment_ejection` cite.
pub mod Ejected
