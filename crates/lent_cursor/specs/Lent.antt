-- A step by the cursor that it leaves behind a reference and the answer beside it. docs/RULES.md, 8.7.
use Rattle.std.specs.Prelude.{Option, ℕ}
use Rattle.refusals.specs.Refusals.{Answered}
use Rattle.window_kinds.specs.declared.CycleWindowCursor.{CycleWindowCursor}
use Rattle.window_kinds.specs.declared.Step.{Step}

abbrev pub step_to : CycleWindowCursor → Answered (Option ℕ) → Step
step_to c a = record { next = c; answer = a }
