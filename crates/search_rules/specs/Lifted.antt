-- What the search's list is on the way down, and what the roster then comes to. docs/RULES.md, 6.4.
use Rattle.std.specs.Prelude.{ℕ, ◌<◌, ◌≡◌, Bool, true, false, cond, ◌&&◌, None}
use mathlib.Core.List.{List, [], Memᴰ}
use Rattle.basics.specs.Tests.{distinct}
use Rattle.basics.specs.Edits.{Edit, rows_of}
use Rattle.rules.specs.Board.{Board, empty}
use Rattle.rules.specs.Roster.{Roster}
use Rattle.search_rules.specs.Blockers.{displaceable}

-- the roster in which the chosen rows are empty
unfoldable pub without : (ℕ → Bool) → Roster → Roster
without D h o = cond (D o) empty (h o)

-- the roster in which every row is empty that displacement, if it is on, could empty
abbrev pub bare : Board → Bool → Roster → Roster
bare B on h = without (λ (o : ℕ). on && displaceable B o) h

-- the list only empties rows that may be displaced, each once; and none where displacement is off
pub record Lifted (B : Board) (on : Bool) (L : List Edit) : Type 0 where
  pub emptied : (e : Edit) → Memᴰ e L → e.value ≡ empty
  pub optional : (e : Edit) → Memᴰ e L → displaceable B e.row ≡ true
  pub within : (e : Edit) → Memᴰ e L → e.row < B.rows
  pub apart : distinct (rows_of L) ≡ true
  pub only : on ≡ false → L ≡ []

-- what the board of any tables has: empty is no value, and what is out of range is not there
pub record Plain (B : Board) : Type 0 where
  pub no_key : (o : ℕ) → B.capacity o empty ≡ None
  pub no_value : (r v : ℕ) → B.legal r v ≡ true → v ≡ empty → ⊥
  pub row_within : (r v : ℕ) → B.legal r v ≡ true → r < B.rows
  pub required_within : (o : ℕ) → B.required o ≡ true → o < B.rows
