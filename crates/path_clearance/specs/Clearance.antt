-- Who is there on the way down, and whether another row leaves a row clear. docs/RULES.md, 6.2 and 6.3.
use Rattle.std.specs.Prelude.{ℕ, ◌+◌, Bool, not, ◌&&◌, ◌||◌, List, get_or, drop, eqb}
use Rattle.basics.specs.Tests.{among}
use Rattle.rules.specs.Board.{Board}
use Rattle.search_rules.specs.Blockers.{shares, fits}

-- 6.2: who is there on the way down: every row, or with displacement only the required ones
unfoldable pub stays : (ℕ → Bool) → Bool → ℕ → Bool
stays required on o = not on || required o

-- 6.3: o, holding w, neither shares the key of r at v nor forms a refused pair with it
unfoldable pub clear_of : Board → ℕ → ℕ → ℕ → ℕ → Bool
clear_of B r v o w = not (shares (B.capacity r v) (B.capacity o w)) && (not B.rule || fits B r v o w)

-- the i-th edit is of r itself, or overruled by a later edit of its row, or leaves its row clear of r
unfoldable pub arrival_clear : Board → List ℕ → List ℕ → ℕ → ℕ → ℕ → Bool
arrival_clear B rs vs r v i =
    eqb (get_or rs i 0) r || (among (get_or rs i 0) (drop (i + 1) rs) || clear_of B r v (get_or rs i 0) (get_or vs i 0))
