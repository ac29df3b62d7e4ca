-- What `capacity_conflicts` answers and leaves in its outputs. docs/RULES.md, 10.1, 11.9, 11.11 and 11.13.
use Rattle.std.specs.Prelude.{ℕ, ◌≡◌, true, ◌&&◌, List, length, leb, ℤ, Ok, Err}
use Rattle.refusals.specs.Refusals.{Answered}
use Rattle.refusals.specs.declared.Refusal.{Refusal}
use Rattle.rules.specs.Board.{Board}
use Rattle.rules.specs.Roster.{Roster}
use Rattle.rules.specs.Ranks.{Ranks}
use Rattle.assignment_tables.specs.declared.Shape.{Shape}
use Rattle.assignment_tables.specs.Tables.{board, ranks_of}
use Rattle.assignment_index.specs.Index.{roster_in}
use Rattle.assignment_state.specs.Admission.{admission}
use Rattle.outputs.specs.Outputs.{fronted}
use Rattle.refusals.specs.Answers.{then_room, unless_refused}
use Rattle.assignment_conflicts.specs.Conflicts.{conflict_holders, conflict_keys}

-- an answer, and what stands in the outputs then
pub record Listing : Type 0 where
  pub answer : Answered ℕ
  pub keys : List ℕ
  pub rows : List ℕ

abbrev pub leaves : Answered ℕ → List ℕ → List ℕ → Listing
leaves a K O = record { answer = a; keys = K; rows = O }

-- 11.13: the conflicts and their number
abbrev pub listed : Board → Ranks → Roster → List ℕ → List ℕ → Listing
listed B P h K O = leaves (Ok (length (conflict_holders B P h))) (fronted (conflict_keys B P h) K) (fronted (conflict_holders B P h) O)

-- 10.1, 11.9: the conflicts of the roster that the records hold; on a refusal the outputs are as they were
unfoldable pub listing : Shape → List ℕ → List ℕ → List ℤ → List ℕ → List ℕ → List ℕ → List ℕ → Listing
listing S m k p R M K O =
    unless_refused
    (λ (r : Refusal). leaves (Err r) K O)
    (listed (board S m k) (ranks_of S m p) (roster_in S.rows R) K O)
    (then_room (admission S m k p R M true) (leb S.rows (length K) && leb S.rows (length O)))

-- the same as facts, where nothing is refused
pub record Filled (B : Board) (P : Ranks) (h : Roster) (K O K' O' : List ℕ) (n : ℕ) : Type 0 where
  pub keys : K' ≡ fronted (conflict_keys B P h) K
  pub rows : O' ≡ fronted (conflict_holders B P h) O
  pub number : n ≡ length (conflict_holders B P h)
