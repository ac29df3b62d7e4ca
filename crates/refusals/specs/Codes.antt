-- Answers as a C caller sees them: a code, 0 or the number of a refusal, and what is written where nothing is refused. docs/RULES.md, 11.
use Rattle.std.specs.Prelude.{ℕ, Bool, true, false, Option, None, Some, Ok, Err}
use Rattle.refusals.specs.Refusals.{Answered, number}

abbrev pub code : {T : Type 0} → Answered T → ℕ
code (Ok x) = 0
code (Err r) = number r

-- 1 for yes, 0 for no; a refusal leaves what was there
abbrev pub yes_flag : Answered Bool → ℕ → ℕ
yes_flag (Ok true) before = 1
yes_flag (Ok false) before = 0
yes_flag (Err r) before = before

-- 1 with a list, 0 for none; a refusal leaves what was there
abbrev pub some_flag : Answered (Option ℕ) → ℕ → ℕ
some_flag (Ok (Some n)) before = 1
some_flag (Ok None) before = 0
some_flag (Err r) before = before

-- how long a list is; without a list what was there
abbrev pub some_count : Answered (Option ℕ) → ℕ → ℕ
some_count (Ok (Some n)) before = n
some_count (Ok None) before = before
some_count (Err r) before = before
