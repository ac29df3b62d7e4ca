-- The most asks that a search can make, as an entry answers it, for every input. docs/RULES.md, 7.3, 11.2 and 11.7.
use Rattle.std.specs.Prelude.{ℕ, cond, ltb, Ok, Err}
use Rattle.refusals.specs.declared.Refusal.TheVariants as refusal
use Rattle.refusals.specs.Refusals.{Answered}
use Rattle.search_rules.specs.Ceiling.{ask_ceiling}

-- 7.3, 11.2, 11.7: refused above 64 candidates and above depth 8
unfoldable pub ceiling_answer : ℕ → ℕ → Answered ℕ
ceiling_answer c d = cond (ltb 64 c) (Err refusal.Candidates) (cond (ltb 8 d) (Err refusal.Depth) (Ok (ask_ceiling c d)))
