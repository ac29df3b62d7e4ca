-- The ceiling of asks as a C caller sees it: a code, 0 or the number of a refusal, and the most asks where nothing is refused. docs/RULES.md, 7.3 and 11.
use Rattle.std.specs.Prelude.{ℕ}
use Rattle.std.specs.Result.{result_unwrap_or}
use Rattle.refusals.specs.Refusals.{Answered}
use Rattle.refusals.specs.Codes.{code}

-- the ceiling, with its code
pub record Bounded : Type 0 where
  pub code : ℕ
  pub most : ℕ

abbrev pub bounded : ℕ → ℕ → Bounded
bounded code most = record { code = code; most = most }

-- 7.3
abbrev pub ceiling_told : Answered ℕ → ℕ → Bounded
ceiling_told w before = bounded (code w) (result_unwrap_or w before)
