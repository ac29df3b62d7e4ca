-- What testing and applying leaves, case by case; what may be concluded; runs.
pub mod ApplyLaws
pub mod OneAct
pub mod Runs
