-- What a step over windows answers and leaves in its outputs. docs/RULES.md, 8.5, 11.11 and 11.13.
use Rattle.std.specs.Prelude.{ℕ, List, length, Option, None, Some, Ok, Err}
use Rattle.refusals.specs.declared.Refusal.{Refusal}
use Rattle.refusals.specs.Refusals.{Answered}
use Rattle.basics.specs.Edits.{Edit}
use Rattle.outputs.specs.Giving.{rows_left, values_left}
use Rattle.window_kinds.specs.declared.CycleWindowCursor.{CycleWindowCursor}
use Rattle.window_kinds.specs.declared.Step.{Step}
use Rattle.window_kinds.specs.Kinds.{Stepped}

-- an answer with its cursor, and what stands in the outputs then
pub record Stepping : Type 0 where
  pub step : Step
  pub rows : List ℕ
  pub values : List ℕ

abbrev pub leaves : Step → List ℕ → List ℕ → Stepping
leaves r O U = record { step = r; rows = O; values = U }

abbrev pub answer_of : Option (List Edit) → Answered (Option ℕ)
answer_of None = Ok None
answer_of (Some L) = Ok (Some (length L))

-- 8.5, 11.13: a step that is not refused
unfoldable pub answering : Stepped → List ℕ → List ℕ → Stepping
answering s O U = leaves (record { next = s.next; answer = answer_of s.move }) (rows_left s.move O) (values_left s.move U)

-- 11.11: a refusal leaves the cursor and the outputs as they were
abbrev pub refused_step : CycleWindowCursor → Refusal → Step
refused_step c r = record { next = c; answer = Err r }
