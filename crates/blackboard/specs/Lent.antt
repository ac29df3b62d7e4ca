-- Tables as a caller lends them, packed: three slices and a shape. docs/RULES.md, 1.
use Rattle.std.specs.Prelude.{ℕ, List, ℤ}
use Rattle.rules.specs.Board.{Board}
use Rattle.assignment_tables.specs.declared.Shape.{Shape}
use Rattle.assignment_tables.specs.Tables.{board}

pub record Tables : Type 0 where
  pub shape : Shape
  pub marks : List ℕ
  pub keys : List ℕ
  pub ranks : List ℤ

-- the board that they are
abbrev pub board_in : Tables → Board
board_in t = board t.shape t.marks t.keys
