-- What `ejection_reinsert_edits` answers and leaves in its outputs. docs/RULES.md, 9, 11.1, 11.9, 11.11 and 11.13.
use Rattle.std.specs.Prelude.{ℕ, ◌&&◌, List, length, leb, ℤ, Option, None, Some, Ok, Err}
use Rattle.refusals.specs.Refusals.{Answered}
use Rattle.refusals.specs.declared.Refusal.{Refusal}
use Rattle.basics.specs.Edits.{Edit, rows_of, values_of}
use Rattle.rules.specs.Board.{Board}
use Rattle.rules.specs.Roster.{Roster}
use Rattle.outputs.specs.Outputs.{fronted}
use Rattle.refusals.specs.Answers.{then_room, unless_refused}
use Rattle.assignment_tables.specs.declared.Shape.{Shape}
use Rattle.assignment_tables.specs.Tables.{board}
use Rattle.assignment_index.specs.Index.{roster_in}
use Rattle.assignment_state.specs.Admission.{admission}
use Rattle.ejection_turns.specs.Ejection.{ejection}

-- an answer, and what stands in the outputs then
pub record Left : Type 0 where
  pub answer : Answered (Option ℕ)
  pub rows : List ℕ
  pub values : List ℕ

abbrev pub leaves : Answered (Option ℕ) → List ℕ → List ℕ → Left
leaves a O U = record { answer = a; rows = O; values = U }

-- 11.13: a list is given back in the outputs' front; "none" leaves them as they were
abbrev pub given : Option (List Edit) → List ℕ → List ℕ → Left
given None O U = leaves (Ok None) O U
given (Some L) O U = leaves (Ok (Some (length L))) (fronted (rows_of L) O) (fronted (values_of L) U)

-- 9: the window's rows lifted out and put back
abbrev pub ejected : Board → Roster → Option ℕ → ℕ → List ℕ → List ℕ → List ℕ → Left
ejected B h limit attempt window O U = given (ejection B h limit attempt window) O U

-- 11.1, 11.9: a window has at most 128 rows, and each output room for as many; a refusal leaves the outputs as they were
unfoldable pub ejecting : Shape → List ℕ → List ℕ → List ℤ → List ℕ → List ℕ → List ℕ → ℕ → Option ℕ → List ℕ → List ℕ → Left
ejecting S m k p R M window attempt limit O U =
    unless_refused
    (λ (r : Refusal). leaves (Err r) O U)
    (ejected (board S m k) (roster_in S.rows R) limit attempt window O U)
    (then_room (admission S m k p R M (leb (length window) 128)) (leb (length window) (length O) && leb (length window) (length U)))
