-- The edit list that shifting the values round a window makes. docs/RULES.md, 8.4.
use Rattle.std.specs.Prelude.{ℕ, Bool, not, cond, List, [], map, eqb}
use Rattle.basics.specs.Tests.{all}
use Rattle.basics.specs.Edits.{Edit, edits}
use Rattle.rules.specs.Board.{empty}
use Rattle.rules.specs.Roster.{Roster}
use Rattle.rotation.specs.Rotation.{rotated}
use Rattle.changed_edits.specs.Changed.{changed}

-- 8.4: the values that the rows of a window get: each that of the row so many places behind it, going round
unfoldable pub shifted_values : Roster → List ℕ → ℕ → List ℕ
shifted_values h W shift = rotated shift (map h W)

abbrev pub not_empty : ℕ → Bool
not_empty v = not (eqb v empty)

-- 8.4: the edits that change something; none at all where a row would get no value
unfoldable pub shift_edits : Roster → List ℕ → ℕ → List Edit
shift_edits h W shift =
    let values = shifted_values h W shift in
    cond (all not_empty values) (changed h (edits W values)) []
