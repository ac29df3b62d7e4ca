-- Who keeps a row from a value. docs/RULES.md, 6.3 and 6.4.
use Rattle.std.specs.Prelude.{ℕ, Bool, false, not, ◌&&◌, ◌||◌, List, eqb, Option, None, Some}
use Rattle.basics.specs.Tests.{all_below, all_of_below, first_from, is}
use Rattle.rules.specs.Board.{Board}
use Rattle.rules.specs.Roster.{Roster}
use Rattle.rules.specs.Neighbours.{beside, beside_allowed}
use Rattle.rules.specs.Reinsertion.{beside_passes}

-- both keys are there, and equal
unfoldable pub shares : Option ℕ → Option ℕ → Bool
shares None o = false
shares (Some k) o = is k o

-- 6.3: the row o, holding w, would stand beside r, holding v, on either side
unfoldable pub at_side : Board → ℕ → ℕ → ℕ → ℕ → Bool
at_side B r v o w = beside B o w r v || beside B r v o w

-- 6.3: the pairs that it would form there are allowed
unfoldable pub fits : Board → ℕ → ℕ → ℕ → ℕ → Bool
fits B r v o w = beside_allowed B o w r v && beside_allowed B r v o w

-- 6.3: the edge rule refuses a pair that r, holding v, would form
unfoldable pub rule_refuses : Board → Roster → ℕ → ℕ → Bool
rule_refuses B g r v = B.rule && not (beside_passes B g r v)

-- 6.3: o is another holder of the key; or, where the edge rule refuses any pair, it is at one of the two sides
unfoldable pub blocks : Board → Roster → ℕ → ℕ → ℕ → Bool
blocks B g r v o =
    not (eqb o r) && (shares (B.capacity r v) (B.capacity o (g o)) || (rule_refuses B g r v && at_side B r v o (g o)))

-- nobody blocks
unfoldable pub is_free : Board → Roster → ℕ → ℕ → Bool
is_free B g r v = all_below B.rows (λ (o : ℕ). not (blocks B g r v o))

-- 6.4: who may be emptied to make way
abbrev pub displaceable : Board → ℕ → Bool
displaceable B o = not (B.required o)

-- the blockers that may be emptied, in rising order
unfoldable pub displaceable_blockers : Board → Roster → ℕ → ℕ → List ℕ
displaceable_blockers B g r v = all_of_below B.rows (λ (o : ℕ). displaceable B o && blocks B g r v o)

-- 6.2: the first blocker that is required
unfoldable pub first_required : Board → Roster → ℕ → ℕ → Option ℕ
first_required B g r v = first_from (λ (o : ℕ). B.required o && blocks B g r v o) 0 B.rows
