-- The answers, case by case. Assumes nothing.
use Prim.Native.Nat.{ℕ, ◌≤◌, ◌<◌}
use mathlib.Core.Path.{◌≡◌, refl, sym, ap, ◌∙◌}
use mathlib.Core.Bool.{Bool, true, false, not}
use mathlib.Core.List.{List, [], ◌∷◌}
use native.Mathlib.Omega.{arith}
use native.Mathlib.Nat.{zero-add}
use lib.Dec.{leb}
use lib.IntN.{ℤ}
use lib.ListN.{length, take}
use lib.Seq.{length-take-le}
use borrow.Author.Tests.{le-leb, lt-leb, not-true, not-false}
use Rattle.std.specs.Prelude.{Ok, Err}
use Rattle.refusals.specs.Refusals.{Checked, Answered, accepted}
use Rattle.refusals.specs.declared.Refusal.{Refusal}
use Rattle.basics.specs.Edits.{all_rows}
use Rattle.basics.proofs.Lists.{nothing}
use Rattle.refusals.specs.declared.Refusal.TheVariants as refusal
use Rattle.outputs.specs.Outputs.{fronted}
use Rattle.refusals.specs.Answers.{then_unless}
use Rattle.refusals.proofs.AnswerLaws.{stays-refused, says_no, says_yes, refused-before, refused-room, not_refused}
use Rattle.outputs.proofs.Writing.{sets_front}
use Rattle.written_text.specs.Wrote.{Wrote}
use Rattle.assignment_tables.specs.declared.Shape.{Shape}
use Rattle.assignment_tables.specs.Tables.{board}
use Rattle.assignment_index.specs.Index.{roster_in}
use Rattle.assignment_state.specs.Admission.{admission, Ready}
use Rattle.assignment_state.proofs.AdmitLaws.{ready}
use Rattle.calendar_format.specs.Format.{Duty, object}
use Rattle.calendar_format.specs.Slices.{paired, duty_rows, duty_days, datable, object_long, InFronts}
use Rattle.calendar_format.specs.Stamps.{is_stamp}
use Rattle.calendar_format.proofs.SliceLaws.{rows_paired, days_paired, front_rows}
use Rattle.calendar_format.proofs.Calendars.{object_long_lem}
use Rattle.driver_calendar.specs.Calendars.{Left, leaves, some_duty, calendar_refusal, calendar_left, duties, calendaring}
use Rattle.driver_calendar.specs.Recorded.{recorded_duties}
use Rattle.driver_calendar.proofs.RecordedLaws.{told-duties, rows_below}

-- ---- one refusal after another

module _ (before : Checked) (D : List Duty) (s O : List ℕ) where
  abbrev said : Refusal → Left
  said r = leaves (Err r) O

  abbrev whole : Left
  whole = leaves (Ok (length (object s D))) (fronted (object s D) O)

  abbrev room : Bool
  room = leb (length (object s D)) (length O)

  abbrev stamp_refusal : Checked
  stamp_refusal = then_unless refusal.Stamp before (is_stamp s)

  abbrev duty_refusal : Checked
  duty_refusal = then_unless refusal.NoDays stamp_refusal (some_duty D)

  abbrev day_refusal : Checked
  day_refusal = then_unless refusal.DayTooLate duty_refusal (datable (duty_days D))

  -- one that came before the days, and so before the room, was asked for
  earlier : (r : Refusal) → duty_refusal ≡ Err r → said r ≡ calendar_left before D s O
  unfolding calendar_left calendar_refusal
  earlier r e = refused-before said whole day_refusal room r (stays-refused refusal.DayTooLate duty_refusal (datable (duty_days D)) r e)

  pub was-refused : (r : Refusal) → before ≡ Err r → said r ≡ calendar_left before D s O
  was-refused r z = earlier r (stays-refused refusal.NoDays stamp_refusal (some_duty D) r (stays-refused refusal.Stamp before (is_stamp s) r z))

  module _ (z : before ≡ Ok tt) where
    pub no_stamp : is_stamp s ≡ false → said refusal.Stamp ≡ calendar_left before D s O
    no_stamp f = earlier refusal.Stamp (stays-refused refusal.NoDays stamp_refusal (some_duty D) refusal.Stamp (says_no refusal.Stamp before (is_stamp s) z f))

    module _ (i : is_stamp s ≡ true) where
      stamped : stamp_refusal ≡ Ok tt
      stamped = says_yes refusal.Stamp before (is_stamp s) z i

      pub no_duty : some_duty D ≡ false → said refusal.NoDays ≡ calendar_left before D s O
      no_duty f = earlier refusal.NoDays (says_no refusal.NoDays stamp_refusal (some_duty D) stamped f)

      module _ (t : some_duty D ≡ true) where
        on_duty : duty_refusal ≡ Ok tt
        on_duty = says_yes refusal.NoDays stamp_refusal (some_duty D) stamped t

        pub day_too_late : datable (duty_days D) ≡ false → said refusal.DayTooLate ≡ calendar_left before D s O
        unfolding calendar_left calendar_refusal
        day_too_late f = refused-before said whole day_refusal room refusal.DayTooLate (says_no refusal.DayTooLate duty_refusal (datable (duty_days D)) on_duty f)

        module _ (d : datable (duty_days D) ≡ true) where
          dated : day_refusal ≡ Ok tt
          dated = says_yes refusal.DayTooLate duty_refusal (datable (duty_days D)) on_duty d

          pub too_short : length O < length (object s D) → said refusal.Room ≡ calendar_left before D s O
          unfolding calendar_left calendar_refusal
          too_short l = refused-room said whole day_refusal room dated (lt-leb _ _ l)

          pub all-written : length (object s D) ≤ length O → (O' : List ℕ) (n : ℕ) → Wrote O 0 (object s D) O' n → leaves (Ok n) O' ≡ calendar_left before D s O
          unfolding calendar_left calendar_refusal
          all-written l O' n w =
              rw (w.place ∙ zero-add (length (object s D)), w.bytes ∙ sets_front (object s D) O l) (not_refused said whole day_refusal room dated (le-leb _ _ l))

-- ---- the same by two slices

has_duty : (rs ds : List ℕ) → length rs ≡ length ds → (length rs ≡ 0 → ⊥) → some_duty (paired rs ds) ≡ true
unfolding some_duty paired
has_duty [] ds e z = absurd (z refl)
has_duty (r ∷ rs) [] e z = absurd (omega arith)
has_duty (r ∷ rs) (d ∷ ds) e z = refl

module _ (s rs ds O : List ℕ) (same : length rs ≡ length ds) (i : is_stamp s ≡ true) where
  abbrev D : List Duty
  D = paired rs ds

  none_there : length rs ≡ 0 → some_duty D ≡ false
  unfolding some_duty paired
  none_there e = rw (nothing rs e)

  some_there : (length rs ≡ 0 → ⊥) → some_duty D ≡ true
  some_there z = has_duty rs ds same z

  pub nothing_to_write : length rs ≡ 0 → leaves (Err refusal.NoDays) O ≡ calendar_left accepted D s O
  nothing_to_write e = no_duty accepted D s O refl i (none_there e)

  module _ (z : length rs ≡ 0 → ⊥) (b : Bool) (eb : b ≡ datable ds) where
    days_told : b ≡ datable (duty_days D)
    days_told = eb ∙ ap datable (sym (days_paired rs ds same))

    pub a_day_too_late : not b ≡ true → leaves (Err refusal.DayTooLate) O ≡ calendar_left accepted D s O
    a_day_too_late f = day_too_late accepted D s O refl i (some_there z) (sym days_told ∙ not-true b f)

    module _ (f : not b ≡ false) (long : ℕ) (el : long ≡ object_long rs) where
      pub days_datable : datable ds ≡ true
      days_datable = sym eb ∙ not-false b f

      pub long_is : long ≡ length (object s D)
      long_is = el ∙ sym (object_long_lem s D i ∙ ap object_long (rows_paired rs ds same))

      pub no_room : length O < long → leaves (Err refusal.Room) O ≡ calendar_left accepted D s O
      no_room l = too_short accepted D s O refl i (some_there z) (sym days_told ∙ not-false b f) (omega (arith, long_is))

      pub written_so : long ≤ length O → (O' : List ℕ) (n : ℕ) → Wrote O 0 (object s D) O' n → leaves (Ok n) O' ≡ calendar_left accepted D s O
      written_so l = all-written accepted D s O refl i (some_there z) (sym days_told ∙ not-false b f) (omega (arith, long_is))

-- ---- of an index that is admitted

module _ (S : Shape) (m k : List ℕ) (p : List ℤ) (R M : List ℕ) (w : Ready S m k p R M) (v : ℕ) (s O : List ℕ) where
  abbrev E : List Duty
  E = duties (board S m k) (roster_in S.rows R) v

  pub not_stamped : (b : Bool) → b ≡ is_stamp s → not b ≡ true → leaves (Err refusal.Stamp) O ≡ calendar_left accepted E s O
  not_stamped b e f = no_stamp accepted E s O refl (sym e ∙ not-true b f)

  pub few_rows : S.rows ≤ 128
  few_rows = w.tables.marked.small.few_rows

  module _ (rs ds : List ℕ) (n : ℕ) (g : InFronts (recorded_duties S.rows R v S.rows) rs ds n) where
    told : recorded_duties S.rows R v S.rows ≡ E
    told = told-duties S m k p R M w v

    pub rows_within : n ≤ length rs
    rows_within = g.rows_room

    pub days_within : n ≤ length ds
    days_within = g.days_room

    pub rows_long : n ≡ length (take n rs)
    rows_long = sym (length-take-le n rs g.rows_room)

    pub days_long : n ≡ length (take n ds)
    days_long = sym (length-take-le n ds g.days_room)

    pub as_many : length (take n rs) ≡ length (take n ds)
    as_many = sym rows_long ∙ days_long

    pub rows_in_range : all_rows 128 (take n rs) ≡ true
    rows_in_range = ap (all_rows 128) (front_rows _ rs ds n g ∙ ap duty_rows told) ∙ rows_below (board S m k).sequence (roster_in S.rows R) v 128 S.rows few_rows

    pub of_the_driver : (a : Answered ℕ) (O' : List ℕ) → leaves a O' ≡ calendar_left accepted (paired (take n rs) (take n ds)) s O → leaves a O' ≡ calendar_left accepted E s O
    of_the_driver a O' e = e ∙ ap (λ (L : List Duty). calendar_left accepted L s O) (sym g.are ∙ told)

-- ---- behind the refusals of tables and index

module _ (S : Shape) (m k : List ℕ) (p : List ℤ) (R M : List ℕ) (v : ℕ) (s O : List ℕ) (a : Checked) (e : a ≡ admission S m k p R M true) where
  pub not_admitted : (r : Refusal) → a ≡ Err r → leaves (Err r) O ≡ calendaring S m k p R M v s O
  not_admitted r z = rw (← e) (was-refused a (duties (board S m k) (roster_in S.rows R) v) s O r z)

  module _ (z : a ≡ Ok tt) where
    pub admitted : Ready S m k p R M
    admitted = (ready S m k p R M true (sym e ∙ z)).0

    pub answered : (r : Answered ℕ) (O' : List ℕ) → leaves r O' ≡ calendar_left accepted (duties (board S m k) (roster_in S.rows R) v) s O → leaves r O' ≡ calendaring S m k p R M v s O
    answered r O' q = q ∙ ap (λ (b : Checked). calendar_left b (duties (board S m k) (roster_in S.rows R) v) s O) (sym z ∙ e)
