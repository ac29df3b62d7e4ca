-- What `driver_calendar` wrote, folded anywhere, `read_calendar` reads as the driver's rows and days. Assumes nothing.
use Prim.Native.Nat.{ℕ, ◌≤◌}
use mathlib.Core.Path.{◌≡◌, refl, sym, ap, ◌∙◌}
use mathlib.Core.Bool.{Bool, true, false}
use mathlib.Core.List.{List, [], ◌∷◌}
use Rattle.std.specs.Prelude.{Option, Some, Ok, Err}
use native.Mathlib.Omega.{arith}
use lib.Dec.{leb}
use lib.IntN.{ℤ}
use lib.ListN.{length, take, drop}
use lib.Seq.{take_at}
use borrow.Author.Tests.{le-leb}
use Rattle.refusals.specs.declared.Refusal.{Refusal}
use Rattle.refusals.specs.Refusals.{accepted, Checked}
use Rattle.basics.proofs.Bools.{clash}
use Rattle.refusals.specs.declared.Refusal.TheVariants as refusal
use Rattle.outputs.specs.Outputs.{fronted}
use Rattle.refusals.specs.Answers.{then_unless, then_room, unless_refused}
use Rattle.refusals.proofs.AnswerLaws.{passed}
use Rattle.rules.specs.Roster.{Roster}
use Rattle.assignment_tables.specs.declared.Shape.{Shape}
use Rattle.assignment_tables.specs.Tables.{board}
use Rattle.assignment_index.specs.Index.{roster_in}
use Rattle.assignment_state.specs.Admission.{admission}
use Rattle.assignment_state.proofs.AdmitLaws.{ready}
use Rattle.calendar_format.specs.Folding.{Folded, done, octet}
use Rattle.calendar_format.specs.Stamps.{is_stamp}
use Rattle.calendar_format.specs.Format.{Duty, object, standing, short_from}
use Rattle.calendar_format.specs.Slices.{duty_rows, duty_days, datable}
use Rattle.calendar_format.specs.Reading.{duties_in}
use Rattle.calendar_format.proofs.Calendars.{folded_back, short_lines, object_bound}
use Rattle.calendar_reading.specs.Reading as duties
use Rattle.driver_calendar.specs.Calendars.{Left, duties_below, some_duty, calendar_refusal, calendar_left, duties, calendaring}
use Rattle.calendar_returns.proofs.StandLaws.{duties-wide}

-- ---- what a calendar that was written says of the refusals

answer-written : (refuse : Refusal → Left) (x : Left) (k : Checked) (n : ℕ) → ((r : Refusal) → (refuse r).answer ≡ Err r) → (unless_refused refuse x k).answer ≡ Ok n → k ≡ Ok tt
unfolding unless_refused
answer-written refuse x (Ok y) n f e = refl
answer-written refuse x (Err r) n f e = let q : Err r ≡ Ok n = sym (f r) ∙ e in cc

module _ (before : Checked) (D : List Duty) (s O : List ℕ) (n : ℕ) (e : (calendar_left before D s O).answer ≡ Ok n) where
  pub not_refused : calendar_refusal before D s O ≡ Ok tt
  unfolding calendar_left
  not_refused = answer-written _ _ (calendar_refusal before D s O) n (λ r. refl) e

  pub record Written : Type 0 where
    pub admitted : before ≡ Ok tt
    pub stamped : is_stamp s ≡ true
    pub on_duty : some_duty D ≡ true
    pub dated : datable (duty_days D) ≡ true
    pub number : n ≡ length (object s D)
    pub text : take n (calendar_left before D s O).out ≡ object s D

  left_is : calendar_left before D s O ≡ record { answer = Ok (length (object s D)); out = fronted (object s D) O }
  unfolding calendar_left unless_refused
  left_is = rw not_refused

  pub told : Written
  unfolding calendar_refusal
  told =
      let a = passed refusal.Room _ _ not_refused in
      let b = passed refusal.DayTooLate _ _ a.0 in
      let c = passed refusal.NoDays _ _ b.0 in
      let d = passed refusal.Stamp _ _ c.0 in
      let k : Ok (length (object s D)) ≡ Ok n = sym (ap (λ (x : Left). x.answer) left_is) ∙ e in
      let same : n ≡ length (object s D) = cc in
      record {
        admitted = d.0;
        stamped = d.1;
        on_duty = c.1;
        dated = b.1;
        number = same;
        text = ap (take n) (ap (λ (x : Left). x.out) left_is) ∙ take_at (object s D) (drop (length (object s D)) O) n (sym same);
      }

-- a refusal is not for want of room where neither the test's is nor one before
told_by : (r : Refusal) (before : Checked) (test : Bool) → (before ≡ Err refusal.Room → ⊥) → (r ≡ refusal.Room → ⊥) → then_unless r before test ≡ Err refusal.Room → ⊥
unfolding then_unless
told_by r (Ok x) true p q e = cc
told_by r (Ok x) false p q e = q cc
told_by r (Err s) test p q e = p e

-- it comes of too little room alone
early : (before : Checked) (room : Bool) → then_room before room ≡ Err refusal.Room → (before ≡ Err refusal.Room → ⊥) → (before ≡ Ok tt → room ≡ false → ⊥) → ⊥
unfolding then_unless
early (Ok tt) true e p q = cc
early (Ok tt) false e p q = q refl refl
early (Err r) room e p q = p e

-- ---- and back

-- what is not folded at all
unfolded_too : (l : List ℕ) → Folded l l
unfolded_too [] = done
unfolded_too (a ∷ l) = octet a (unfolded_too l)

some_there : (D : List Duty) → some_duty D ≡ true → D ≡ [] → ⊥
unfolding some_duty
some_there [] t e = clash t refl
some_there (x ∷ D) t e = let z : ◌≡◌ {A = ℕ} 0 1 = cc in omega arith

module _ (S : Shape) (m k : List ℕ) (p : List ℤ) (R M : List ℕ) (v : ℕ) (s O : List ℕ) (n : ℕ) (e : (calendaring S m k p R M v s O).answer ≡ Ok n) where
  abbrev D : List Duty
  D = duties (board S m k) (roster_in S.rows R) v

  w : Written (admission S m k p R M true) D s O n e
  w = told (admission S m k p R M true) D s O n e

  stands_so : standing 128 0 D ≡ true
  stands_so = duties-wide (board S m k).sequence (roster_in S.rows R) v S.rows 128 (ready S m k p R M true w.admitted).0.tables.marked.small.few_rows w.dated

  -- what was written
  abbrev text : List ℕ
  text = take n (calendaring S m k p R M v s O).out

  -- no line of it has 75 octets
  pub lines_short : short_from 0 text ≡ true
  lines_short = ap (short_from 0) w.text ∙ short_lines s D w.stamped stands_so

  -- folded anywhere, it is read as the driver's duties
  pub read_again : (input : List ℕ) → Folded text input → duties_in input ≡ Some D
  read_again input f = folded_back s input D w.stamped (some_there D w.on_duty) stands_so (rw w.text at f)

  -- by the entry: as the driver's rows and days, where there is room for them
  pub returns : (input : List ℕ) → Folded text input → (O' U : List ℕ) → length D ≤ length O' → length D ≤ length U
      → duties.reading input O' U ≡ duties.leaves (Ok (length D)) (fronted (duty_rows D) O') (fronted (duty_days D) U)
  unfolding duties.given_if duties.given
  returns input f O' U a b = rw (read_again input f, le-leb (length D) (length O') a, le-leb (length D) (length U) b)

-- 16,626 octets are room for any driver's calendar of at most 128 rows
pub room_suffices : (sequence : ℕ → ℕ → Option ℕ) (h : Roster) (v rows : ℕ) (s O : List ℕ) → rows ≤ 128 → 16626 ≤ length O
    → calendar_refusal accepted (duties_below sequence h v rows) s O ≡ Err refusal.Room → ⊥
unfolding calendar_refusal
room_suffices sequence h v rows s O few l e =
    let D : List Duty = duties_below sequence h v rows in
    let a : Checked = then_unless refusal.Stamp accepted (is_stamp s) in
    let b : Checked = then_unless refusal.NoDays a (some_duty D) in
    let c : Checked = then_unless refusal.DayTooLate b (datable (duty_days D)) in
    early c (leb (length (object s D)) (length O)) e (told_by refusal.DayTooLate b _ (told_by refusal.NoDays a _ (told_by refusal.Stamp accepted _ (λ z. cc) (λ q. cc)) (λ q. cc)) (λ q. cc))
    (λ z f.
    let d = passed refusal.DayTooLate b _ z in
    let g = passed refusal.Stamp accepted _ (passed refusal.NoDays a _ d.0).0 in
    let k = object_bound s D g.1 (duties-wide sequence h v rows 128 few d.1) in
    clash (le-leb (length (object s D)) (length O) (omega arith)) f)

-- two calendars that were written, of any tables, rosters, drivers and stamps: the same octets are the same duties
pub one_calendar : (S T : Shape) (m k n l : List ℕ) (p q : List ℤ) (R M Q N : List ℕ) (v u : ℕ) (s t O P : List ℕ) (a b : ℕ)
    → (e : (calendaring S m k p R M v s O).answer ≡ Ok a) (f : (calendaring T n l q Q N u t P).answer ≡ Ok b)
    → text S m k p R M v s O a e ≡ text T n l q Q N u t P b f
    → D S m k p R M v s O a e ≡ D T n l q Q N u t P b f
one_calendar S T m k n l p q R M Q N v u s t O P a b e f same =
    let x = read_again S m k p R M v s O a e (text S m k p R M v s O a e) (unfolded_too (text S m k p R M v s O a e)) in
    let y = read_again T n l q Q N u t P b f (text S m k p R M v s O a e) (rw same (unfolded_too (text T n l q Q N u t P b f))) in
    cc
