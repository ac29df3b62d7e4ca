-- The most asks that a search can make. docs/RULES.md, 7.3.
use Rattle.std.specs.Prelude.{ℕ, zero, suc, ◌+◌, ◌*◌}

-- of a try at a depth, where no row offers more than c candidates
unfoldable pub try_ceiling : ℕ → ℕ → ℕ
try_ceiling c zero = 1
try_ceiling c (suc d) = 1 + c + c * try_ceiling c d

-- of a search
unfoldable pub ask_ceiling : ℕ → ℕ → ℕ
ask_ceiling c d = 2 + try_ceiling c d
