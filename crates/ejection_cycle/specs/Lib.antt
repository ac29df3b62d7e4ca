-- Windows whose rows are lifted out and put back, walked: the definitions that the contracts of `ejection_cycle` cite.
pub mod Reinserting
