-- Lifting the rows of a window out and putting them back one by one. docs/RULES.md, 9. A window is a list of rows, each position of which has an
-- entry of its own in the list of edits: the rows are the window's, and the values are written down beside them.
use Rattle.std.specs.Prelude.{ℕ, Bool, true, false, cond, List, [], ◌∷◌, length, get_or, set, replicate, Option, None, Some}
use Rattle.basics.specs.Tests.{list_below}
use Rattle.basics.specs.Edits.{Edit, edits}
use Rattle.rules.specs.Board.{Board, empty, limited}
use Rattle.rules.specs.Roster.{Roster}
use Rattle.rules.specs.Reinsertion.{reinserts}
use Rattle.rotation.specs.Rotation.{rotated}
use Rattle.changed_edits.specs.Changed.{changed}

-- the first number that passes
unfoldable pub first_that : (ℕ → Bool) → List ℕ → Option ℕ
first_that p [] = None
first_that p (x ∷ xs) = let later = first_that p xs in cond (p x) (Some x) later

abbrev pub is_there : Option ℕ → Bool
is_there None = false
is_there (Some v) = true

-- 1.8: an optional value as it is written
abbrev pub or_empty : Option ℕ → ℕ
or_empty None = empty
or_empty (Some v) = v

-- 9.2: the row at position i may take the value v: the list so far, with v at that position, passes the reinsertion test
unfoldable pub allowed_at : Board → Roster → List ℕ → List ℕ → ℕ → ℕ → Bool
allowed_at B h window values i v = reinserts B h (edits window (set values i v)) (get_or window i 0) v

-- 9.2: the value that it takes: the first allowed of its candidates, counted from the number of the attempt, going round
unfoldable pub taken : Board → Roster → Option ℕ → ℕ → List ℕ → List ℕ → ℕ → Option ℕ
taken B h limit attempt window values i =
    first_that (allowed_at B h window values i) (rotated attempt (limited limit (B.candidates (get_or window i 0))))

-- 9.3: it takes none, and is required
unfoldable pub stuck : Board → List ℕ → ℕ → Option ℕ → Bool
stuck B window i None = B.required (get_or window i 0)
stuck B window i (Some v) = false

-- the values written, and whether they may stand
pub record Turned : Type 0 where
  pub stands : Bool
  pub values : List ℕ

abbrev pub turned : Bool → List ℕ → Turned
turned b values = record { stands = b; values = values }

-- 9.1, 9.3: the rows at these positions put back, one after the other, up to a required one that takes none
unfoldable pub put_back : Board → Roster → Option ℕ → ℕ → List ℕ → List ℕ → List ℕ → Turned
put_back B h limit attempt window [] values = turned true values
put_back B h limit attempt window (i ∷ is) values =
    let value = taken B h limit attempt window values i in
    let next = set values i (or_empty value) in
    let later = put_back B h limit attempt window is next in
    cond (stuck B window i value) (turned false next) later

-- 9.1: all positions of the window, counted from the number of the attempt, going round
abbrev pub places_from : ℕ → List ℕ → List ℕ
places_from attempt window = rotated attempt (list_below (length window) (λ (i : ℕ). i))

-- 9.3: the list that comes of values, without the edits that change nothing, or none
abbrev pub list_from : Roster → List ℕ → Turned → Option (List Edit)
list_from h window t = cond t.stands (Some (changed h (edits window t.values))) None

-- 9: at first all rows of the window are empty
unfoldable pub ejection : Board → Roster → Option ℕ → ℕ → List ℕ → Option (List Edit)
ejection B h limit attempt window =
    list_from h window (put_back B h limit attempt window (places_from attempt window) (replicate (length window) empty))
