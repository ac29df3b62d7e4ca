-- Where a field ends. docs/RULES.md, 12.1.
use Rattle.std.specs.Prelude.{ℕ, Bool, cond, ◌||◌, List, [], ◌∷◌, eqb}

-- a comma or a carriage return
unfoldable pub ends : ℕ → Bool
ends b = eqb b 44 || eqb b 13

-- what stands before the first comma or carriage return
unfoldable pub front : List ℕ → List ℕ
front [] = []
front (b ∷ l) = let more = front l in cond (ends b) [] (b ∷ more)
