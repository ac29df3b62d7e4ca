-- What a caller may conclude of a list that is tested and applied as one act, by what the entries answer and leave. docs/RULES.md, 3.11 and 4.3.
use Rattle.std.specs.Prelude.{ℕ, ◌≡◌, ◌↔◌, true, List, length, eqb, ℤ, Ok}
use Rattle.basics.specs.Edits.{edits}
use Rattle.basics.specs.Sorting.{Reordered}
use Rattle.rules.specs.Roster.{after}
use Rattle.rules.specs.FinalTest.{passes}
use Rattle.soundness.specs.Demand3.{Returnable}
use Rattle.assignment_tables.specs.declared.Shape.{Shape}
use Rattle.assignment_tables.specs.Tables.{board}
use Rattle.assignment_index.specs.Index.{members_of, roster_in}
use Rattle.assignment_state.specs.Admission.{admission}
use Rattle.assignment_updates.specs.Refresh.{records_by, refreshed}
use Rattle.assignment_overlay.specs.Verdicts.{final_verdict}
use Rattle.sound_rosters.specs.SoundVerdict.{sound_verdict}
use Rattle.passed_lists.specs.Passed.{old_values, joined_rows, joined_values}
use Rattle.applied_lists.specs.Applying.{Applied, leaves, applying}

module _ (S : Shape) (m k : List ℕ) (p : List ℤ) where
  -- a list is applied to what an application left
  abbrev pub apply_then : Applied → List ℕ → List ℕ → Applied
  apply_then x rs vs = applying S m k p x.records x.members rs vs

  -- the answer is yes
  abbrev pub Applies : List ℕ → List ℕ → List ℕ → List ℕ → Type 0
  Applies R M rs vs = (applying S m k p R M rs vs).answer ≡ Ok true

-- 3.11, of tables and an index, whatever they are
pub record OneAct (S : Shape) (m k : List ℕ) (p : List ℤ) (R M : List ℕ) : Type 0 where
  -- the answer is the final test's, also where that is a no or a refusal
  pub same_verdict : (rs vs : List ℕ) → (applying S m k p R M rs vs).answer ≡ final_verdict S m k p R M rs vs
  -- yes exactly if tables and index are admitted and the list passes
  pub yes_iff : (rs vs : List ℕ) → Applies S m k p R M rs vs
      ↔ ((admission S m k p R M (eqb (length rs) (length vs)) ≡ Ok tt) × (passes (board S m k) (roster_in S.rows R) (edits rs vs) ≡ true))
  -- and then both slices are the index of the roster after the list
  pub index_after : (rs vs : List ℕ) → Applies S m k p R M rs vs
      → ((applying S m k p R M rs vs).records ≡ records_by S m k (after (roster_in S.rows R) (edits rs vs)))
      × ((applying S m k p R M rs vs).members ≡ members_of S.rows (records_by S m k (after (roster_in S.rows R) (edits rs vs))))
  -- without a yes every cell is as it was
  pub as_it_was : (rs vs : List ℕ) → (Applies S m k p R M rs vs → ⊥) → ((applying S m k p R M rs vs).records ≡ R) × ((applying S m k p R M rs vs).members ≡ M)
  -- what is applied is what a refresh by the same list, which is accepted, leaves
  pub as_refreshed : (rs vs : List ℕ) → Applies S m k p R M rs vs
      → refreshed S m k p R M rs vs ≡ record { answer = Ok tt; records = (applying S m k p R M rs vs).records; members = (applying S m k p R M rs vs).members }
  -- from a sound roster a yes leaves a sound one
  pub keeps_sound : (rs vs : List ℕ) → sound_verdict S m k p R M ≡ Ok true → Applies S m k p R M rs vs
      → sound_verdict S m k p (applying S m k p R M rs vs).records (applying S m k p R M rs vs).members ≡ Ok true
  -- the order of edits is indifferent
  pub order : (rs vs us ws : List ℕ) → length rs ≡ length vs → length us ≡ length ws → Reordered (edits rs vs) (edits us ws)
      → applying S m k p R M rs vs ≡ applying S m k p R M us ws
  -- a list that is applied and one that is applied after it join into one that is applied and leaves the same index
  pub joins : (rs vs us ws : List ℕ) → Applies S m k p R M rs vs → (apply_then S m k p (applying S m k p R M rs vs) us ws).answer ≡ Ok true
      → applying S m k p R M (joined_rows rs vs us ws) (joined_values rs vs us ws) ≡ apply_then S m k p (applying S m k p R M rs vs) us ws
  -- what was applied to a sound roster is put back by one call where the old values may be, and both slices are what they were, cell by cell
  pub undoes : (rs vs : List ℕ) → sound_verdict S m k p R M ≡ Ok true → Applies S m k p R M rs vs
      → Returnable (board S m k) (roster_in S.rows R) (edits rs vs)
      → apply_then S m k p (applying S m k p R M rs vs) rs (old_values S R rs) ≡ leaves (Ok true) R M
