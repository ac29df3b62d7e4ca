-- Rematch windows: the definitions that the contracts of `assignment_cycle` cite.
pub mod Windows
pub mod Stepping
pub mod Walk
