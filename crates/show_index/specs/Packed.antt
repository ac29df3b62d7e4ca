-- Board T's marks and keys, written cell by cell, row by row. proofs/PackLaws.antt says that they are the blackboard's.
use Rattle.std.specs.Prelude.{ℕ, zero, suc, ◌+◌, ◌*◌, List, set}
use Rattle.assignment_tables.specs.declared.Shape.{Shape}
use Rattle.assignment_tables.specs.Layout.{required_start, may_empty_start, counts_start, candidates_start, legal_start, capacity_given_start, capacity_start}

abbrev shape : Shape
shape = record { rows = 4; values = 3; edge_rule = 0 }

-- the value is a candidate of the row, legal for it, and its own capacity key
unfoldable pub cell_marks : ℕ → ℕ → List ℕ → List ℕ
cell_marks row value marks =
    set (set (set marks (candidates_start shape + (row * 64 + value)) value) (legal_start shape + (row * 3 + value)) 1) (capacity_given_start shape + (row * 3 + value)) 1

unfoldable pub cell_keys : ℕ → ℕ → List ℕ → List ℕ
cell_keys row value keys = set keys (capacity_start shape + (row * 3 + value)) value

-- the cells of a row below n
unfoldable pub cells_marks : ℕ → ℕ → List ℕ → List ℕ
cells_marks row zero marks = marks
cells_marks row (suc n) marks = cell_marks row n (cells_marks row n marks)

unfoldable pub cells_keys : ℕ → ℕ → List ℕ → List ℕ
cells_keys row zero keys = keys
cells_keys row (suc n) keys = cell_keys row n (cells_keys row n keys)

-- the row may be empty, counts 3 candidates, and is open to every value
unfoldable pub row_marks : ℕ → List ℕ → List ℕ
row_marks row marks = cells_marks row 3 (set (set marks (may_empty_start shape + row) 1) (counts_start shape + row) 3)

-- the rows below n
unfoldable pub rows_marks : ℕ → List ℕ → List ℕ
rows_marks zero marks = marks
rows_marks (suc n) marks = row_marks n (rows_marks n marks)

unfoldable pub rows_keys : ℕ → List ℕ → List ℕ
rows_keys zero keys = keys
rows_keys (suc n) keys = cells_keys n 3 (rows_keys n keys)

-- rows 0 and 1 are required
unfoldable pub packed_marks : List ℕ → List ℕ
packed_marks marks = rows_marks 4 (set (set marks (required_start shape) 1) (required_start shape + 1) 1)
