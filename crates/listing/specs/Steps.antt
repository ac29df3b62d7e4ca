-- What the listing asks of tables and an index. docs/RULES.md, 12.2 and 12.3.
use Rattle.std.specs.Prelude.{ℕ, ◌≤◌, ◌≡◌, List, length, ℤ}
use Rattle.assignment_tables.specs.declared.Shape.{Shape}
use Rattle.assignment_tables.specs.Layout.{ranks_length}
use Rattle.assignment_tables.specs.Tables.{board, ranks_of}
use Rattle.assignment_state.specs.Admission.{Ready}
use Rattle.listing_shape.specs.FileBoard.{file_ranks}
use Rattle.listing_moves.specs.WalkText.{Bounded}

-- tables without ranks and with short numbers, and an index
pub record Listable (S : Shape) (m k R M : List ℕ) : Type 0 where
  pub ready : (p : List ℤ) → length p ≡ ranks_length S → Ready S m k p R M
  pub small : S.rows ≤ 128
  pub unranked : (p : List ℤ) → ranks_of S m p ≡ file_ranks
  pub bounded : Bounded (board S m k)
