-- Duties in two slices, rows and days side by side, and how long their object is. docs/RULES.md, 13.1 and 13.2.
use Rattle.std.specs.Prelude.{ℕ, ◌+◌, ◌*◌, ◌≤◌, ◌≡◌, Bool, List, [], ◌∷◌, leb, length, take}
use Rattle.basics.specs.Tests.{all}
use Rattle.decimals.specs.Decimals.{digits}
use Rattle.civil_dates.specs.Dates.{last_day}
use Rattle.calendar_format.specs.Format.{Duty}

abbrev pub duty : ℕ → ℕ → Duty
duty r d = record { row = r; day = d }

-- the duties that a slice of rows and a slice of days are
unfoldable pub paired : List ℕ → List ℕ → List Duty
paired [] ds = []
paired (r ∷ rs) [] = []
paired (r ∷ rs) (d ∷ ds) = duty r d ∷ paired rs ds

unfoldable pub duty_rows : List Duty → List ℕ
duty_rows [] = []
duty_rows (x ∷ D) = x.row ∷ duty_rows D

unfoldable pub duty_days : List Duty → List ℕ
duty_days [] = []
duty_days (x ∷ D) = x.day ∷ duty_days D

-- every day has a date of a year up to 9999
unfoldable pub datable : List ℕ → Bool
datable ds = all (λ (d : ℕ). leb d last_day) ds

-- the duties are the first n rows and days of two slices
pub record InFronts (D : List Duty) (rs ds : List ℕ) (n : ℕ) : Type 0 where
  pub rows_room : n ≤ length rs
  pub days_room : n ≤ length ds
  pub are : D ≡ paired (take n rs) (take n ds)

-- ---- how many octets an object has

-- an event of the row, which is written twice in it
abbrev pub event_long : ℕ → ℕ
event_long r = 125 + 2 * length (digits r)

unfoldable pub events_long : List ℕ → ℕ
events_long [] = 0
events_long (r ∷ rs) = event_long r + events_long rs

-- the object of rows, whatever its days and its stamp
unfoldable pub object_long : List ℕ → ℕ
object_long rs = 78 + events_long rs
