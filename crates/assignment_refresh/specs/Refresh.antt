-- Rosters that a refresh and a build pass through, and the lists that a refresh takes. docs/RULES.md, 2 and 3.
use Rattle.std.specs.Prelude.{ℕ, Bool, List, [], ◌∷◌, eqb, Option, None}
use Rattle.basics.specs.Tests.{all}
use Rattle.rules.specs.Board.{empty}
use Rattle.rules.specs.Roster.{Roster, put}

-- the roster with every listed row holding nothing
unfoldable pub vacated : Roster → List ℕ → Roster
vacated h [] = h
vacated h (r ∷ rs) = vacated (put h r empty) rs

-- every listed row holds nothing
abbrev pub all_vacant : Roster → List ℕ → Bool
all_vacant h rs = all (λ (r : ℕ). eqb (h r) empty) rs

-- nobody holds anything, and nothing has a key
abbrev pub nobody : Roster
nobody r = empty

abbrev pub keyless : ℕ → ℕ → Option ℕ
keyless r v = None
