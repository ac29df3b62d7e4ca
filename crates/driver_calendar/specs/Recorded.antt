-- A driver's duties as the records of an index tell them: a held value, whether there is a sequence, and which. docs/RULES.md, 2.5 and 13.1.
use Rattle.std.specs.Prelude.{ℕ, zero, suc, ◌+◌, ◌≤◌, cond, List, [], ◌∷◌, ◌++◌, eqb, get_or}
use Rattle.assignment_index.specs.Columns.{column}
use Rattle.assignment_index.specs.Index.{roster_in}
use Rattle.calendar_format.specs.Format.{Duty}
use Rattle.calendar_format.specs.Slices.{duty, InFronts}

-- the row's duty, by its cells in the records of n rows
unfoldable pub recorded_duty : ℕ → List ℕ → ℕ → ℕ → List Duty
recorded_duty n R v r =
    cond (eqb (roster_in n R r) v) (cond (eqb (get_or (column n 3 R) r 0) 0) [] (duty r (get_or (column n 4 R) r 0) ∷ [])) []

-- those of the first rows
unfoldable pub recorded_duties : ℕ → List ℕ → ℕ → ℕ → List Duty
recorded_duties n R v zero = []
recorded_duties n R v (suc r) = recorded_duties n R v r ++ recorded_duty n R v r

-- the row's duty, where it is one, stands behind those before
pub record Added (n : ℕ) (R : List ℕ) (v row : ℕ) (rs ds : List ℕ) (before : ℕ) (rs' ds' : List ℕ) (after : ℕ) : Type 0 where
  pub more : (D : List Duty) → InFronts D rs ds before → InFronts (D ++ recorded_duty n R v row) rs' ds' after
  pub few : after ≤ before + 1
