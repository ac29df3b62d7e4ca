-- Testing and applying a list as one act: what it leaves, what a caller may conclude, and runs that mix it with refreshes.
pub mod Applying
pub mod OneAct
pub mod Runs
