-- What a caller may conclude of lists that pass, by what the entries answer and leave in the two slices of the index. docs/RULES.md, 4.3.
use Rattle.std.specs.Prelude.{ℕ, ◌≡◌, List, map, length, ℤ, Ok, true}
use Rattle.basics.specs.Edits.{rows_of, values_of, edits}
use Rattle.basics.specs.Sorting.{Reordered}
use Rattle.soundness.specs.Demand3.{join, Returnable}
use Rattle.assignment_tables.specs.declared.Shape.{Shape}
use Rattle.assignment_tables.specs.Tables.{board}
use Rattle.assignment_index.specs.Index.{roster_in}
use Rattle.assignment_updates.specs.Refresh.{Left, refreshed}
use Rattle.assignment_overlay.specs.Verdicts.{final_verdict}
use Rattle.sound_rosters.specs.SoundVerdict.{sound_verdict}

-- the values that a list's rows hold
abbrev pub old_values : Shape → List ℕ → List ℕ → List ℕ
old_values S R rs = map (roster_in S.rows R) rs

-- the rows and the values of two lists joined
abbrev pub joined_rows : List ℕ → List ℕ → List ℕ → List ℕ → List ℕ
joined_rows rs vs us ws = rows_of (join (edits rs vs) (edits us ws))

abbrev pub joined_values : List ℕ → List ℕ → List ℕ → List ℕ → List ℕ
joined_values rs vs us ws = values_of (join (edits rs vs) (edits us ws))

module _ (S : Shape) (m k : List ℕ) (p : List ℤ) where
  -- a roster's index, refreshed by a list: the answer, and what stands in the two slices then
  abbrev pub refresh : List ℕ → List ℕ → List ℕ → List ℕ → Left
  refresh R M rs vs = refreshed S m k p R M rs vs

  -- the final test says yes
  abbrev pub Feasible : List ℕ → List ℕ → List ℕ → List ℕ → Type 0
  Feasible R M rs vs = final_verdict S m k p R M rs vs ≡ Ok true

  -- and says so of a list on what a refresh left
  abbrev pub FeasibleThen : Left → List ℕ → List ℕ → Type 0
  FeasibleThen x rs vs = Feasible x.records x.members rs vs

  abbrev pub refresh_then : Left → List ℕ → List ℕ → Left
  refresh_then x rs vs = refresh x.records x.members rs vs

-- 4.3, of tables and an index, whatever they are
pub record Passed (S : Shape) (m k : List ℕ) (p : List ℤ) (R M : List ℕ) : Type 0 where
  -- a list that passes is accepted by a refresh
  pub taken : (rs vs : List ℕ) → Feasible S m k p R M rs vs → (refresh S m k p R M rs vs).answer ≡ Ok tt
  -- the order of edits is indifferent: to the verdict, also where it is a no or a refusal, and to the index after
  pub order : (rs vs us ws : List ℕ) → length rs ≡ length vs → length us ≡ length ws → Reordered (edits rs vs) (edits us ws)
      → (final_verdict S m k p R M rs vs ≡ final_verdict S m k p R M us ws)
      × (Feasible S m k p R M rs vs → refresh S m k p R M rs vs ≡ refresh S m k p R M us ws)
  -- a list that passes and one that passes after it join into one that passes, and leaves the index that they leave one after the other
  pub joins : (rs vs us ws : List ℕ) → Feasible S m k p R M rs vs → FeasibleThen S m k p (refresh S m k p R M rs vs) us ws
      → Feasible S m k p R M (joined_rows rs vs us ws) (joined_values rs vs us ws)
      × (refresh S m k p R M (joined_rows rs vs us ws) (joined_values rs vs us ws) ≡ refresh_then S m k p (refresh S m k p R M rs vs) us ws)
  -- from a sound roster: what passed and was applied is put back where the old values may be, and both slices are what they were, cell by cell
  pub undoes : (rs vs : List ℕ) → sound_verdict S m k p R M ≡ Ok true → Feasible S m k p R M rs vs
      → Returnable (board S m k) (roster_in S.rows R) (edits rs vs)
      → FeasibleThen S m k p (refresh S m k p R M rs vs) rs (old_values S R rs)
      × (refresh_then S m k p (refresh S m k p R M rs vs) rs (old_values S R rs) ≡ record { answer = Ok tt; records = R; members = M })
