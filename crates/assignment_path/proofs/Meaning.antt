-- What a reader may conclude of every answer of the search. Assumes nothing.
use Prim.Native.Nat.{ℕ, ◌+◌, ◌≤◌}
use mathlib.Core.Path.{◌≡◌}
use mathlib.Core.Bool.{Bool, true}
use mathlib.Core.List.{List}
use Rattle.std.specs.Prelude.{Some, Option}
use lib.ListN.{length}
use lib.IntN.{ℤ}
use Rattle.basics.specs.Edits.{Edit}
use Rattle.rules.specs.Roster.{Roster}
use Rattle.rules.specs.FinalTest.{passes}
use Rattle.assignment_tables.specs.declared.Shape.{Shape}
use Rattle.assignment_tables.specs.Tables.{board}
use Rattle.assignment_tables.specs.Refusal.{Admitted}
use Rattle.search_rules.specs.Search.{search, offers}
use Rattle.search_rules.specs.Ceiling.{ask_ceiling}
use Rattle.search_rules.proofs.Bounds.{search_asks}
use Rattle.search_rules.proofs.Moves.{move_passes, move_short}
use Rattle.path_steps.proofs.PlainLaws.{board_plain}
use Rattle.path_entry.specs.Trails.{terms}
use Rattle.assignment_path.specs.Searching.{request}

module _ (S : Shape) (m k : List ℕ) (p : List ℤ) (w : Admitted S m k p) (h : Roster) (row value depth : ℕ) (displace : Bool) (limit : Option ℕ) (budget : ℕ) where
  -- every move passes the final test
  pub moves_pass : (L : List Edit) → (search (board S m k) h (request row value depth displace limit budget)).found ≡ Some L → passes (board S m k) h L ≡ true
  moves_pass L e = move_passes (board S m k) h (request row value depth displace limit budget) L e

  -- it is not empty, and within the bound of the raw list
  pub moves_short : (L : List Edit) → (search (board S m k) h (request row value depth displace limit budget)).found ≡ Some L → (1 ≤ length L) × (length L ≤ S.rows + depth + 1)
  moves_short L e = move_short (board S m k) h (request row value depth displace limit budget) L e (board_plain S m k w.marked)

  -- the asks are at most what the ceiling says, c being the most that a row offers under the limit
  pub asks_few : (c : ℕ) → ((b : ℕ) → length (offers (board S m k) (terms displace limit budget) b) ≤ c) → (search (board S m k) h (request row value depth displace limit budget)).asks ≤ ask_ceiling c depth
  asks_few c few = search_asks (board S m k) h (request row value depth displace limit budget) c few
