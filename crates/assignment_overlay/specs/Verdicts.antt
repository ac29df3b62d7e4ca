-- What the entries of both tests answer, for every input. docs/RULES.md, 3, 5 and 11.
use Rattle.std.specs.Prelude.{ℕ, List, length, eqb, ℤ, Ok, Bool}
use Rattle.std.specs.Result.{result_and}
use Rattle.refusals.specs.Refusals.{Answered}
use Rattle.basics.specs.Edits.{edits}
use Rattle.rules.specs.FinalTest.{passes}
use Rattle.rules.specs.Reinsertion.{reinserts}
use Rattle.assignment_tables.specs.declared.Shape.{Shape}
use Rattle.assignment_tables.specs.Tables.{board}
use Rattle.assignment_index.specs.Index.{roster_in}
use Rattle.assignment_state.specs.Admission.{admission}

-- the final test as an entry
unfoldable pub final_verdict : Shape → List ℕ → List ℕ → List ℤ → List ℕ → List ℕ → List ℕ → List ℕ → Answered Bool
final_verdict S m k p R M rs vs =
    result_and (admission S m k p R M (eqb (length rs) (length vs))) (Ok (passes (board S m k) (roster_in S.rows R) (edits rs vs)))

-- the reinsertion test as an entry
unfoldable pub reinsert_verdict : Shape → List ℕ → List ℕ → List ℤ → List ℕ → List ℕ → List ℕ → List ℕ → ℕ → ℕ → Answered Bool
reinsert_verdict S m k p R M rs vs r v =
    result_and (admission S m k p R M (eqb (length rs) (length vs))) (Ok (reinserts (board S m k) (roster_in S.rows R) (edits rs vs) r v))
