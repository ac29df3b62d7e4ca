-- Board T: four rows and three values, as a caller would lend it; and the rosters of the examples.
use Rattle.std.specs.Prelude.{ℕ, List, [], ◌∷◌, ◌++◌, replicate, ℤ, pos}
use Rattle.rules.specs.Board.{Board, empty}
use Rattle.assignment_tables.specs.declared.Shape.{Shape}
use Rattle.blackboard.specs.Lent.{Tables, board_in}

abbrev shape : Shape
shape = record { rows = 4; values = 3; edge_rule = 0 }

-- rows 0 and 1 are required; all may be empty; none has a position or an order key; each counts three candidates
row_marks : List ℕ
row_marks = (1 ∷ 1 ∷ 0 ∷ 0 ∷ []) ++ replicate 4 1 ++ replicate 4 0 ++ replicate 4 0 ++ replicate 4 3

-- the candidates 0, 1, 2 of a row, and the cells behind them, which nobody reads
candidate_marks : List ℕ
candidate_marks = (0 ∷ 1 ∷ 2 ∷ []) ++ replicate 61 0

-- all legal, all with a capacity key, none with a sequence key; no edge
cell_marks : List ℕ
cell_marks = replicate 12 1 ++ replicate 12 1 ++ replicate 12 0 ++ replicate 16 0

marks : List ℕ
marks = row_marks ++ (candidate_marks ++ candidate_marks ++ candidate_marks ++ candidate_marks) ++ cell_marks

-- the capacity key is the value
keys : List ℕ
keys = (0 ∷ 1 ∷ 2 ∷ 0 ∷ 1 ∷ 2 ∷ 0 ∷ 1 ∷ 2 ∷ 0 ∷ 1 ∷ 2 ∷ []) ++ replicate 12 0

ranks : List ℤ
ranks = replicate 8 (pos 0)

unfoldable pub tables_t : Tables
unfolding row_marks candidate_marks cell_marks marks keys ranks
tables_t = record { shape = shape; marks = marks; keys = keys; ranks = ranks }

unfoldable pub board_t : Board
unfolding tables_t
board_t = board_in tables_t

unfoldable pub roster_a : List ℕ
roster_a = 0 ∷ 1 ∷ empty ∷ 2 ∷ []

unfoldable pub roster_b : List ℕ
roster_b = 0 ∷ 0 ∷ empty ∷ 0 ∷ []

unfoldable pub all_empty : List ℕ
all_empty = empty ∷ empty ∷ empty ∷ empty ∷ []

-- two required rows with one driver
unfoldable pub roster_c : List ℕ
roster_c = 0 ∷ 0 ∷ empty ∷ empty ∷ []
