-- The tests of the places that a list touches. docs/RULES.md, 3.5 to 3.8 and 5.3.
use Rattle.std.specs.Prelude.{ℕ, Bool, false, not, ◌&&◌, List, length, get_or, Option, None, Some}
use Rattle.basics.specs.Tests.{all_below}
use Rattle.rules.specs.Board.{Board}
use Rattle.rules.specs.Roster.{Roster}
use Rattle.rules.specs.FinalTest.{place_passes}
use Rattle.overlay_pairs.specs.Pairs.{has_place}

-- the place that the i-th edit's row leaves passes, and the one that it arrives at
abbrev pub old_place : Board → Roster → Roster → List ℕ → ℕ → Bool
old_place B h g rs i = place_passes B g (h (get_or rs i 0)) (B.sequence (get_or rs i 0) (h (get_or rs i 0)))

abbrev pub new_place : Board → Roster → List ℕ → List ℕ → ℕ → Bool
new_place B g rs vs i = place_passes B g (get_or vs i 0) (B.sequence (get_or rs i 0) (get_or vs i 0))

-- the i-th listed row does not stand at the place
abbrev pub stays_off : (ℕ → ℕ → Option ℕ) → Roster → List ℕ → ℕ → ℕ → ℕ → Bool
stays_off sequence h rs v s i = not (has_place sequence v s (get_or rs i 0) (h (get_or rs i 0)))

-- some listed row leaves the place, if it is one
unfoldable pub left_place : (ℕ → ℕ → Option ℕ) → Roster → List ℕ → ℕ → Option ℕ → Bool
left_place sequence h rs v None = false
left_place sequence h rs v (Some s) = not (all_below (length rs) (stays_off sequence h rs v s))

-- both places of the i-th edit, the one that its row leaves and the one it arrives at, pass
abbrev pub edit_places : Board → Roster → Roster → List ℕ → List ℕ → ℕ → Bool
edit_places B h g rs vs i =
    place_passes B g (h (get_or rs i 0)) (B.sequence (get_or rs i 0) (h (get_or rs i 0))) && place_passes B g (get_or vs i 0) (B.sequence (get_or rs i 0) (get_or vs i 0))
