-- The duties that the records tell are the driver's, and where they stand. Assumes nothing.
use Prim.Native.Nat.{ℕ, zero, suc, ◌+◌, ◌≤◌, ◌<◌}
use mathlib.Core.Path.{◌≡◌, refl, ap, ap₂, ◌∙◌}
use mathlib.Core.Bool.{true, cond}
use mathlib.Core.List.{List, [], ◌∷◌, ◌++◌, append-nil}
use Rattle.std.specs.Prelude.{Option, None, Some}
use native.Mathlib.Numerals.{add-one}
use native.Mathlib.Omega.{arith}
use lib.Dec.{eqb, ltb}
use lib.IntN.{ℤ}
use lib.ListN.{length, get_or, set}
use borrow.Author.Tests.{eq-eqb, ne_eqb, eqb-true, lt-ltb}
use Rattle.basics.specs.Tests.{all}
use Rattle.basics.specs.Edits.{all_rows}
use Rattle.basics.proofs.Bools.{either, and_join}
use Rattle.basics.proofs.Lists.{all_append}
use Rattle.basics.proofs.Below.{list_below_at}
use Rattle.rules.specs.Roster.{Roster}
use Rattle.assignment_tables.specs.declared.Shape.{Shape}
use Rattle.assignment_tables.specs.Tables.{board, capacity_at, sequence_at}
use Rattle.assignment_index.specs.Columns.{column}
use Rattle.assignment_index.specs.Index.{roster_in, cell_of, given_number, key_number}
use Rattle.assignment_index.proofs.Records.{column_are}
use Rattle.assignment_state.specs.Admission.{Ready}
use Rattle.calendar_format.specs.Format.{Duty}
use Rattle.calendar_format.specs.Slices.{duty, duty_rows, InFronts}
use Rattle.calendar_format.proofs.SliceLaws.{none_in_front, one_more_lem}
use Rattle.driver_calendar.specs.Calendars.{duty_on, duty_at, duties_below, duties}
use Rattle.driver_calendar.specs.Recorded.{recorded_duty, recorded_duties, Added}

-- ---- a row added, or not

module _ (n : ℕ) (R : List ℕ) (v row : ℕ) where
  another : (roster_in n R row ≡ v → ⊥) → recorded_duty n R v row ≡ []
  unfolding recorded_duty
  another z = rw (ne_eqb _ _ z)

  dayless : roster_in n R row ≡ v → get_or (column n 3 R) row 0 ≡ 0 → recorded_duty n R v row ≡ []
  unfolding recorded_duty
  dayless h z = rw (eq-eqb _ _ h, eq-eqb _ _ z)

  on_its_day : roster_in n R row ≡ v → (get_or (column n 3 R) row 0 ≡ 0 → ⊥) → recorded_duty n R v row ≡ duty row (get_or (column n 4 R) row 0) ∷ []
  unfolding recorded_duty
  on_its_day h z = rw (eq-eqb _ _ h, ne_eqb _ _ z)

module _ (n : ℕ) (R : List ℕ) (v row : ℕ) (rs ds : List ℕ) (count : ℕ) where
  unchanged : recorded_duty n R v row ≡ [] → Added n R v row rs ds count rs ds count
  unchanged e = record { more = λ D w. rw (e, append-nil D) w; few = omega arith }

  pub held_by_another : (roster_in n R row ≡ v → ⊥) → Added n R v row rs ds count rs ds count
  held_by_another z = unchanged (another n R v row z)

  pub without-a_day : roster_in n R row ≡ v → get_or (column n 3 R) row 0 ≡ 0 → Added n R v row rs ds count rs ds count
  without-a_day h z = unchanged (dayless n R v row h z)

  pub with_a_day : roster_in n R row ≡ v → (get_or (column n 3 R) row 0 ≡ 0 → ⊥) → count < length rs → count < length ds → (day : ℕ) → day ≡ get_or (column n 4 R) row 0
      → Added n R v row rs ds count (set rs count row) (set ds count day) (count + 1)
  with_a_day h z k l day e = record {
    more = λ D w. rw (on_its_day n R v row h z, ← e) (one_more_lem D rs ds count w row day k l);
    few = omega arith;
  }

-- ---- all rows

pub none_yet : (n : ℕ) (R : List ℕ) (v : ℕ) (rs ds : List ℕ) → InFronts (recorded_duties n R v 0) rs ds 0
unfolding recorded_duties
none_yet n R v rs ds = none_in_front rs ds

pub one_row-more : (n : ℕ) (R : List ℕ) (v row : ℕ) (rs ds : List ℕ) (count : ℕ) → InFronts (recorded_duties n R v row) rs ds count
    → (rs' ds' : List ℕ) (next : ℕ) → Added n R v row rs ds count rs' ds' next → InFronts (recorded_duties n R v (row + 1)) rs' ds' next
unfolding recorded_duties
one_row-more n R v row rs ds count w rs' ds' next a = rw add-one (a.more (recorded_duties n R v row) w)

pub all_rows_lem : (n : ℕ) (R : List ℕ) (v row : ℕ) (rs ds : List ℕ) (count : ℕ) → row ≤ n → n ≤ row → InFronts (recorded_duties n R v row) rs ds count → InFronts (recorded_duties n R v n) rs ds count
all_rows_lem n R v row rs ds count k l w = let e : row ≡ n = omega arith in rw e at w

-- ---- they are the driver's

module _ (n : ℕ) (capacity sequence : ℕ → ℕ → Option ℕ) (h : Roster) (R : List ℕ) (same : (j r : ℕ) → j < 5 → r < n → get_or (column n j R) r 0 ≡ cell_of (h r) (capacity r (h r)) (sequence r (h r)) j) (held : roster_in n R ≡ h) (v : ℕ) where
  by_cells : (r : ℕ) (o : Option ℕ) → cond (eqb (given_number o) 0) [] (duty r (key_number o) ∷ []) ≡ duty_on r o
  unfolding duty_on
  by_cells r None = refl
  by_cells r (Some d) = refl

  same-duty : (r : ℕ) → r < n → recorded_duty n R v r ≡ duty_at sequence h v r
  unfolding recorded_duty duty_at
  same-duty r l =
      let e : roster_in n R r ≡ h r = ap (λ (f : Roster). f r) held in
      either (eqb (h r) v)
      (λ t. let q : h r ≡ v = eqb-true (h r) v t in
      rw (e, t, same 3 r (omega arith) l, same 4 r (omega arith) l) (by_cells r (sequence r (h r)) ∙ ap (λ (x : ℕ). duty_on r (sequence r x)) q))
      (λ f. rw (e, f))

  pub same-duties : (k : ℕ) → k ≤ n → recorded_duties n R v k ≡ duties_below sequence h v k
  unfolding recorded_duties duties_below
  same-duties zero l = refl
  same-duties (suc k) l = ap₂ ◌++◌ (same-duties k (omega arith)) (same-duty k (omega arith))

module _ (S : Shape) (m k : List ℕ) (p : List ℤ) (R M : List ℕ) (w : Ready S m k p R M) (v : ℕ) where
  abbrev h : Roster
  h = roster_in S.rows R

  cells_are : (j r : ℕ) → j < 5 → r < S.rows → get_or (column S.rows j R) r 0 ≡ cell_of (h r) (capacity_at S m k r (h r)) (sequence_at S m k r (h r)) j
  cells_are j r b l =
      ap (λ (x : List ℕ). get_or (column S.rows j x) r 0) w.index.records_right
      ∙ ap (λ (x : List ℕ). get_or x r 0) (column_are S.rows (capacity_at S m k) (sequence_at S m k) h j b)
      ∙ list_below_at S.rows _ r 0 l

  pub told-duties : recorded_duties S.rows R v S.rows ≡ duties (board S m k) h v
  told-duties = same-duties S.rows (capacity_at S m k) (sequence_at S m k) h R cells_are refl v S.rows (omega arith)

-- ---- their rows are rows

module _ (sequence : ℕ → ℕ → Option ℕ) (h : Roster) (v top : ℕ) where
  rows_on : (r : ℕ) → r < top → (o : Option ℕ) → all_rows top (duty_rows (duty_on r o)) ≡ true
  unfolding duty_on duty_rows all
  rows_on r l None = refl
  rows_on r l (Some d) = rw (lt-ltb r top l)

  rows_at : (r : ℕ) → r < top → all_rows top (duty_rows (duty_at sequence h v r)) ≡ true
  unfolding duty_at duty_rows all
  rows_at r l = either (eqb (h r) v) (λ t. rw t (rows_on r l (sequence r v))) (λ f. rw f)

  rows_append : (D E : List Duty) → duty_rows (D ++ E) ≡ duty_rows D ++ duty_rows E
  unfolding duty_rows
  rows_append [] E = refl
  rows_append (x ∷ D) E = ap (λ (l : List ℕ). x.row ∷ l) (rows_append D E)

  pub rows_below : (n : ℕ) → n ≤ top → all_rows top (duty_rows (duties_below sequence h v n)) ≡ true
  unfolding duties_below duty_rows all
  rows_below zero l = refl
  rows_below (suc n) l =
      ap (all_rows top) (rows_append (duties_below sequence h v n) (duty_at sequence h v n))
      ∙ all_append (λ (r : ℕ). ltb r top) (duty_rows (duties_below sequence h v n)) (duty_rows (duty_at sequence h v n))
      ∙ and_join (rows_below n (omega arith)) (rows_at n (omega arith))
