-- Windows and the cursor over them: the definitions that the contracts of `window_kinds` cite, and what a step over any windows leaves.
pub mod Kinds
pub mod Stepping
