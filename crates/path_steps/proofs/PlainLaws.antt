-- What the board of any tables has: nothing is out of range, and "empty" is no value. Assumes nothing.
use Prim.Native.Nat.{ℕ, ◌+◌, ◌*◌, ◌≤◌, ◌<◌}
use mathlib.Core.Path.{◌≡◌, ap}
use mathlib.Core.Bool.{Bool, true, cond}
use mathlib.Core.List.{List}
use Rattle.std.specs.Prelude.{None, Some}
use native.Mathlib.Omega.{arith}
use lib.ListN.{get_or}
use lib.Dec.{ltb}
use borrow.Author.Tests.{ltb-true, le-ltb}
use Rattle.basics.proofs.Bools.{and_left, and_false}
use Rattle.rules.specs.Board.{empty}
use Rattle.assignment_tables.specs.declared.Shape.{Shape}
use Rattle.assignment_tables.specs.Layout.{Marked}
use Rattle.assignment_tables.specs.Cells.{row_flag, cell_flag, cell_key}
use Rattle.assignment_tables.specs.Tables.{board}
use Rattle.assignment_tables.proofs.CellLaws.{cell_set}
use Rattle.search_rules.specs.Lifted.{Plain}

-- no key of a row or a column out of range
module _ (rows columns from start : ℕ) (m k : List ℕ) (r c : ℕ) where
  pub row_outside : rows ≤ r → cell_key rows columns from start m k r c ≡ None
  unfolding cell_key cell_flag
  row_outside l = rw (le-ltb r rows l)

  column_outside : columns ≤ c → cell_key rows columns from start m k r c ≡ None
  unfolding cell_key cell_flag
  column_outside l = rw (le-ltb c columns l) (ap (λ (b : Bool). cond b (Some (get_or k (start + (r * columns + c)) 0)) None) (and_false (ltb r rows)))

pub board_plain : (S : Shape) (m k : List ℕ) → Marked S m → Plain (board S m k)
unfolding row_flag
board_plain S m k w = record {
  no_key = λ o. column_outside S.rows S.values _ _ m k o empty (omega (arith, w.small.few_values));
  no_value = λ r v t e. absurd (omega (arith, (cell_set S.rows S.values _ m r v t).1, w.small.few_values, e));
  row_within = λ r v t. (cell_set S.rows S.values _ m r v t).0;
  required_within = λ o t. row-flag o t;
}
  where
    row-flag : (o : ℕ) → row_flag S.rows 0 m o ≡ true → o < S.rows
    row-flag o t = ltb-true o S.rows (and_left (ltb o S.rows) _ t)
