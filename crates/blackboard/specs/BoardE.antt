-- Board E: three rows of one value, one behind the other in the driver's day, under the edge rule; only row 0 may be right before row 1.
use Rattle.std.specs.Prelude.{ℕ, List, [], ◌∷◌, ◌++◌, replicate, pos}
use Rattle.rules.specs.Board.{empty}
use Rattle.blackboard.specs.Lent.{Tables}

-- none is required, all may be empty; no position, no order key, no candidates
row_marks : List ℕ
row_marks = replicate 3 0 ++ replicate 3 1 ++ replicate 9 0

-- all legal, no capacity key, each with a sequence key
cell_marks : List ℕ
cell_marks = replicate 3 1 ++ replicate 3 0 ++ replicate 3 1

edge_marks : List ℕ
edge_marks = 0 ∷ 1 ∷ 0 ∷ 0 ∷ 0 ∷ 0 ∷ 0 ∷ 0 ∷ 0 ∷ []

-- the sequences 7, 8 and 9
keys : List ℕ
keys = 0 ∷ 0 ∷ 0 ∷ 7 ∷ 8 ∷ 9 ∷ []

unfoldable pub tables_e : Tables
unfolding row_marks cell_marks edge_marks keys
tables_e = record {
  shape = record { rows = 3; values = 1; edge_rule = 1 };
  marks = row_marks ++ replicate 192 0 ++ cell_marks ++ edge_marks;
  keys = keys;
  ranks = replicate 6 (pos 0);
}

-- the row between the two others is open
unfoldable pub both_sides : List ℕ
both_sides = 0 ∷ empty ∷ 0 ∷ []

unfoldable pub before : List ℕ
before = 0 ∷ empty ∷ empty ∷ []

unfoldable pub behind : List ℕ
behind = empty ∷ empty ∷ 0 ∷ []
