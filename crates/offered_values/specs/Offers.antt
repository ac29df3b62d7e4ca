-- What a row offers under a limit. docs/RULES.md, 1.4.
use Rattle.std.specs.Prelude.{ℕ, Option, None, Some}

-- 1.4: the most that a row offers under a limit, as a number
abbrev pub most_offered : Option ℕ → ℕ
most_offered None = 64
most_offered (Some n) = n
