-- What the code keeps of numbers that stand beside edits: those whose edit changes what its row holds. docs/RULES.md, 8.4 and 9.3.
use Rattle.std.specs.Prelude.{ℕ, cond, List, [], ◌∷◌, ◌++◌, eqb}
use Rattle.rules.specs.Roster.{Roster}

-- the number x beside one edit
unfoldable pub kept_one : Roster → ℕ → ℕ → ℕ → List ℕ
kept_one h row value x = cond (eqb value (h row)) [] (x ∷ [])

-- the numbers beside a list of edits
unfoldable pub kept_of : Roster → List ℕ → List ℕ → List ℕ → List ℕ
kept_of h [] values xs = []
kept_of h (row ∷ rows) [] xs = []
kept_of h (row ∷ rows) (value ∷ values) [] = []
kept_of h (row ∷ rows) (value ∷ values) (x ∷ xs) = kept_one h row value x ++ kept_of h rows values xs
