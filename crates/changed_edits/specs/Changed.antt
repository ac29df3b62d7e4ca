-- The edits of a list that change what their row holds. docs/RULES.md, 8.4 and 9.3.
use Rattle.std.specs.Prelude.{cond, List, [], ◌∷◌, eqb}
use Rattle.basics.specs.Edits.{Edit}
use Rattle.rules.specs.Roster.{Roster}

-- 8.4, 9.3: they stay in their order, the others are dropped
unfoldable pub changed : Roster → List Edit → List Edit
changed h [] = []
changed h (e ∷ L) = let rest = changed h L in cond (eqb e.value (h e.row)) rest (e ∷ rest)
