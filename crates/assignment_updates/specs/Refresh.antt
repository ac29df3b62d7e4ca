-- What building an index and refreshing one leave in the lent slices. docs/RULES.md, 2.6, 11.3 to 11.5 and 11.11.
use Rattle.std.specs.Prelude.{ℕ, zero, suc, ◌&&◌, List, length, get_or, eqb, ltb, ℤ, Ok, Err}
use Rattle.std.specs.Result.{result_and}
use Rattle.basics.specs.Edits.{edits, fresh}
use Rattle.refusals.specs.declared.Refusal.TheVariants as refusal
use Rattle.refusals.specs.Refusals.{Checked}
use Rattle.refusals.specs.Answers.{refused_unless}
use Rattle.rules.specs.Roster.{Roster, roster_of, after}
use Rattle.assignment_tables.specs.declared.Shape.{Shape}
use Rattle.assignment_tables.specs.Tables.{capacity_at, sequence_at}
use Rattle.assignment_tables.specs.Refusal.{tables_refusal}
use Rattle.assignment_index.specs.Index.{records_of, members_of, roster_in}
use Rattle.assignment_state.specs.Admission.{index_lengths, holdable, all_holdable, admission}

-- 11.4, 11.5, 11.3: one entry of a refresh list: its row in range, not named before, its value holdable
unfoldable pub entry_refusal : Shape → List ℕ → List ℕ → ℕ → Checked
entry_refusal S rs vs i =
    result_and
    (refused_unless refusal.RowOutOfRange (ltb (get_or rs i 0) S.rows))
    (result_and (refused_unless refusal.RowNamedTwice (fresh rs i)) (refused_unless refusal.HeldValue (holdable S (get_or vs i 0))))

-- 11.11: the first of a run of refusals that is one, from i on, n looked at
unfoldable pub first_refusal : (ℕ → Checked) → ℕ → ℕ → Checked
first_refusal f i zero = Ok tt
first_refusal f i (suc n) = result_and (f i) (first_refusal f (suc i) n)

unfoldable pub list_refusal : Shape → List ℕ → List ℕ → Checked
list_refusal S rs vs = first_refusal (entry_refusal S rs vs) 0 (length rs)

unfoldable pub refresh_refusal : Shape → List ℕ → List ℕ → List ℤ → List ℕ → List ℕ → List ℕ → List ℕ → Checked
refresh_refusal S m k p R M rs vs = result_and (admission S m k p R M (eqb (length rs) (length vs))) (list_refusal S rs vs)

-- 2.5: the records and the members that tables and a roster give
abbrev pub records_by : Shape → List ℕ → List ℕ → Roster → List ℕ
records_by S m k = records_of S.rows (capacity_at S m k) (sequence_at S m k)

-- an answer, and what stands in the two slices then
pub record Left : Type 0 where
  pub answer : Checked
  pub records : List ℕ
  pub members : List ℕ

-- with no refusal the index of a roster, else what was there
unfoldable pub leaving : Shape → List ℕ → List ℕ → Roster → List ℕ → List ℕ → Checked → Left
leaving S m k h R M (Ok x) = record { answer = Ok tt; records = records_by S m k h; members = members_of S.rows (records_by S m k h) }
leaving S m k h R M (Err r) = record { answer = Err r; records = R; members = M }

-- 2.6: refresh
unfoldable pub refreshed : Shape → List ℕ → List ℕ → List ℤ → List ℕ → List ℕ → List ℕ → List ℕ → Left
refreshed S m k p R M rs vs =
    leaving S m k (after (roster_in S.rows R) (edits rs vs)) R M (refresh_refusal S m k p R M rs vs)

-- 2.6: build, from a roster of one value a row
unfoldable pub build_refusal : Shape → List ℕ → List ℕ → List ℤ → List ℕ → List ℕ → List ℕ → Checked
build_refusal S m k p vs R M =
    result_and
    (tables_refusal S m k p (eqb (length vs) S.rows && index_lengths S R M))
    (refused_unless refusal.HeldValue (all_holdable S vs))

unfoldable pub built : Shape → List ℕ → List ℕ → List ℤ → List ℕ → List ℕ → List ℕ → Left
built S m k p vs R M = leaving S m k (roster_of vs) R M (build_refusal S m k p vs R M)
