-- Days and dates: the definitions that the contracts of `civil_dates` cite.
pub mod Parts
pub mod Dates
