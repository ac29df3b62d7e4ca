-- Duties as records: the definitions that the contracts of `duty_records` cite.
pub mod Records
