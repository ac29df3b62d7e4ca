-- When two rows are neighbours, and what the edge rule asks of them. docs/RULES.md, 3.5 to 3.8.
use Rattle.std.specs.Prelude.{ℕ, zero, suc, ◌+◌, ◌-◌, ◌^◌, Bool, false, not, cond, ◌&&◌, ◌||◌, eqb, Option, None, Some}
use Rattle.rules.specs.Board.{Board}
use Rattle.rules.specs.Roster.{Roster}

-- 3.5: the sequence t comes right after s
unfoldable pub follows : Board → ℕ → ℕ → Bool
follows B s t = eqb t (s + 1)

-- 3.5: the same of what two rows have for a sequence; an absent one has no neighbour
unfoldable pub followed : Board → Option ℕ → Option ℕ → Bool
followed B None o = false
followed B (Some s) None = false
followed B (Some s) (Some t) = follows B s t

-- 3.5: the sequence right below s, and the one right above, among the numbers of the machine: 0 has none below, 2 ^ 64 - 1 none above
unfoldable pub below : Board → ℕ → Option ℕ
below B zero = None
below B (suc s) = Some s

unfoldable pub above : Board → ℕ → Option ℕ
above B s = cond (eqb s (2 ^ 64 - 1)) None (Some (s + 1))

-- 3.6: the row l with the value u stands right before another row r with the value w: one value, at a sequence and the next
unfoldable pub beside : Board → ℕ → ℕ → ℕ → ℕ → Bool
beside B l u r w = eqb u w && (not (eqb l r) && followed B (B.sequence l u) (B.sequence r w))

-- 3.7: two rows, each with a value, that stand so are an allowed pair
unfoldable pub beside_allowed : Board → ℕ → ℕ → ℕ → ℕ → Bool
beside_allowed B l u r w = not (beside B l u r w) || B.edge l r

-- 3.6, 3.7: the same of the values that a roster has the two rows hold
abbrev pub neighbours : Board → Roster → ℕ → ℕ → Bool
neighbours B h l r = beside B l (h l) r (h r)

abbrev pub pair_allowed : Board → Roster → ℕ → ℕ → Bool
pair_allowed B h l r = beside_allowed B l (h l) r (h r)
