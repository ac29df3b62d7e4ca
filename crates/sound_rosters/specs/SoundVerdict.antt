-- What the question whether a roster is sound answers as an entry, for every input. docs/RULES.md, 4 and 11.
use Rattle.std.specs.Prelude.{ℕ, true, List, ℤ, Ok, Bool}
use Rattle.std.specs.Result.{result_and}
use Rattle.refusals.specs.Refusals.{Answered}
use Rattle.rules.specs.Sound.{sound_test}
use Rattle.assignment_tables.specs.declared.Shape.{Shape}
use Rattle.assignment_tables.specs.Tables.{board}
use Rattle.assignment_index.specs.Index.{roster_in}
use Rattle.assignment_state.specs.Admission.{admission}

-- the refusal, if there is one, else whether the roster is sound
unfoldable pub sound_verdict : Shape → List ℕ → List ℕ → List ℤ → List ℕ → List ℕ → Answered Bool
sound_verdict S m k p R M = result_and (admission S m k p R M true) (Ok (sound_test (board S m k) (roster_in S.rows R)))
