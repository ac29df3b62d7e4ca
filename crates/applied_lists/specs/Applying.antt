-- What testing and applying a list as one act answers, and leaves in the index. docs/RULES.md, 3.11 and 11.
use Rattle.std.specs.Prelude.{ℕ, List, ℤ, Ok, Err, Bool, true, false}
use Rattle.refusals.specs.Refusals.{Answered}
use Rattle.basics.specs.Edits.{edits}
use Rattle.rules.specs.Roster.{Roster, after}
use Rattle.rules.specs.FinalTest.{passes}
use Rattle.assignment_tables.specs.declared.Shape.{Shape}
use Rattle.assignment_tables.specs.Tables.{board}
use Rattle.assignment_index.specs.Index.{members_of, roster_in}
use Rattle.assignment_updates.specs.Refresh.{records_by}
use Rattle.assignment_overlay.specs.Verdicts.{final_verdict}

-- an answer, and what stands in the two slices of the index then
pub record Applied : Type 0 where
  pub answer : Answered Bool
  pub records : List ℕ
  pub members : List ℕ

abbrev pub leaves : Answered Bool → List ℕ → List ℕ → Applied
leaves a R M = record { answer = a; records = R; members = M }

-- 3.11: after a yes the index of a roster, after a no and after a refusal what was there
unfoldable pub acting : Shape → List ℕ → List ℕ → Roster → List ℕ → List ℕ → Answered Bool → Applied
acting S m k h R M (Ok true) = leaves (Ok true) (records_by S m k h) (members_of S.rows (records_by S m k h))
acting S m k h R M (Ok false) = leaves (Ok false) R M
acting S m k h R M (Err n) = leaves (Err n) R M

-- 3.11: of slices that were admitted: the list is applied if it passes the final test
unfoldable pub applied : Shape → List ℕ → List ℕ → List ℕ → List ℕ → List ℕ → List ℕ → Applied
applied S m k R M rs vs =
    acting S m k (after (roster_in S.rows R) (edits rs vs)) R M (Ok (passes (board S m k) (roster_in S.rows R) (edits rs vs)))

-- 3.11, 11.11: as an entry: by what the final test answers, which is a refusal where tables or index are none
unfoldable pub applying : Shape → List ℕ → List ℕ → List ℤ → List ℕ → List ℕ → List ℕ → List ℕ → Applied
applying S m k p R M rs vs = acting S m k (after (roster_in S.rows R) (edits rs vs)) R M (final_verdict S m k p R M rs vs)
