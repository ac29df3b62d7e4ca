-- What stands in the tables once records are written into them. docs/RULES.md, 1.9 and 12.2.
use Rattle.std.specs.Prelude.{ℕ, zero, suc, ◌+◌, ◌*◌, ◌≤◌, ◌<◌, cond, List, eqb, length, set, replicate}
use Rattle.assignment_tables.specs.declared.Shape.{Shape}
use Rattle.assignment_tables.specs.Layout.{legal_start, capacity_given_start, sequence_given_start, capacity_start, sequence_start, marks_length, keys_length}
use Rattle.listing_reading.specs.Cells.{record_in}
use Rattle.listing_shape.specs.Counts.{cell_in}

-- n numbers, each stored at its place, one after the other
unfoldable pub scattered : (ℕ → ℕ) → (ℕ → ℕ) → ℕ → List ℕ → List ℕ
scattered place what zero s = s
scattered place what (suc n) s = set (scattered place what n s) (place n) (what n)

-- the place of the i-th record's row and value, in a table that starts at `start`
abbrev pub place_in : List ℕ → ℕ → ℕ → ℕ → ℕ
place_in cells values start i = start + ((record_in cells i).row * values + (record_in cells i).value)

-- a flag for the i-th record: 1 in column 0, and else whether its cell is not 0
unfoldable pub flag_in : List ℕ → ℕ → ℕ → ℕ
flag_in cells column i = cond (eqb column 0) 1 (cond (eqb (cell_in cells column i) 0) 0 1)

-- the first n records name rows and values below these
pub record Fitting (cells : List ℕ) (n rows values : ℕ) : Type 0 where
  pub room : 51100 ≤ length cells
  pub few_rows : rows ≤ 128
  pub few_values : values ≤ 64
  pub row : (i : ℕ) → i < n → (record_in cells i).row < rows
  pub value : (i : ℕ) → i < n → (record_in cells i).value < values

-- 12.2: the marks of a file's tables: nothing, and then what the records say
unfoldable pub file_marks : Shape → List ℕ → ℕ → List ℕ
file_marks S cells n =
    scattered (place_in cells S.values (sequence_given_start S)) (flag_in cells 5) n
    (scattered (place_in cells S.values (capacity_given_start S)) (flag_in cells 3) n
    (scattered (place_in cells S.values (legal_start S)) (flag_in cells 0) n (replicate (marks_length S) 0)))

unfoldable pub file_keys : Shape → List ℕ → ℕ → List ℕ
file_keys S cells n =
    scattered (place_in cells S.values (sequence_start S)) (cell_in cells 6) n
    (scattered (place_in cells S.values (capacity_start S)) (cell_in cells 4) n (replicate (keys_length S) 0))

-- 12.2: each of the first n records that says 1 puts its value at its row
unfoldable pub seated : List ℕ → ℕ → List ℕ → List ℕ
seated cells zero s = s
seated cells (suc n) s =
    let before = seated cells n s in
    cond (eqb (record_in cells n).now 1) (set before (record_in cells n).row (record_in cells n).value) before
