-- Cells that are the ones expected.
use Rattle.std.specs.Prelude.{ℕ, Bool, List, eqb, get_or}

-- cell i of two tables; behind their ends stand zeros
unfoldable pub same_at : List ℕ → List ℕ → ℕ → Bool
same_at expected seen i = eqb (get_or expected i 0) (get_or seen i 0)
