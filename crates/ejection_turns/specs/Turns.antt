-- What putting rows back asks of the lent slices, and what the row at a position takes as they say.
use Rattle.std.specs.Prelude.{ℕ, ◌≡◌, true, List, Option}
use Rattle.assignment_tables.specs.declared.Shape.{Shape}
use Rattle.assignment_tables.specs.Tables.{board}
use Rattle.assignment_tables.specs.Refusal.{all_candidates_fit}
use Rattle.assignment_index.specs.Index.{roster_in, Indexed}
use Rattle.ejection_turns.specs.Ejection.{taken}

abbrev pub taken_in : Shape → List ℕ → List ℕ → List ℕ → Option ℕ → ℕ → List ℕ → List ℕ → ℕ → Option ℕ
taken_in S m k R limit attempt window values i = taken (board S m k) (roster_in S.rows R) limit attempt window values i

pub record Returning (S : Shape) (m k R M : List ℕ) : Type 0 where
  pub index : Indexed S m k R M
  pub candidates_fit : all_candidates_fit S m ≡ true
