-- Values shifted round a window: the definitions that the contracts of `rematch_shift` cite.
pub mod Shift
