-- Who may use the lent slices: the definitions that the contracts of `assignment_state` cite.
pub mod Admission
