-- How many rows and values the records in cells name, and the shape that they give. docs/RULES.md, 12.3.
use Rattle.std.specs.Prelude.{ℕ, ◌+◌, ◌*◌, cond, List, leb, get_or, Option, None, Some}
use Rattle.assignment_tables.specs.declared.Shape.{Shape}
use Rattle.listing_reading.specs.Cells.{record_in}
use Rattle.listing_shape.specs.FileBoard.{count_over}

-- the number in a column of the i-th record's seven cells
abbrev pub cell_in : List ℕ → ℕ → ℕ → ℕ
cell_in cells column i = get_or cells (i * 7 + column) 0

-- a count up to a limit
unfoldable pub counted : ℕ → ℕ → Option ℕ
counted limit n = cond (leb n limit) (Some n) None

-- 12.3: the shape of the first n records' tables
unfoldable pub file_shape : List ℕ → ℕ → Option Shape
file_shape cells n =
    let rows = count_over n (λ (i : ℕ). (record_in cells i).row) in
    let values = count_over n (λ (i : ℕ). (record_in cells i).value) in
    cond (leb rows 128) (cond (leb values 64) (Some (record { rows = rows; values = values; edge_rule = 0 })) None) None
