-- What was written lies within the outputs. Assumes nothing.
use Prim.Native.Nat.{ℕ, suc, ◌+◌, ◌*◌, ◌≤◌}
use mathlib.Core.Path.{◌≡◌, refl, sym, ap, subst, ◌∙◌}
use mathlib.Core.Bool.{Bool, true, false, cond, ◌&&◌}
use mathlib.Core.List.{List, [], ◌∷◌}
use Rattle.std.specs.Prelude.{Option, None, Some, Ok, Err}
use native.Mathlib.Omega.{arith}
use lib.Dec.{leb}
use lib.ListN.{length, take, drop, length-append}
use lib.Seq.{length-take-le}
use Rattle.refusals.proofs.AnswerLaws.{ok-err}
use Rattle.refusals.specs.declared.Refusal.TheVariants as refusal
use Rattle.refusals.specs.Refusals.{Answered}
use Rattle.refusals.specs.declared.Refusal.{Refusal}
use Rattle.outputs.specs.Outputs.{fronted}
use Rattle.calendar_format.specs.Format.{Duty}
use Rattle.calendar_format.specs.Slices.{duty_rows, duty_days}
use Rattle.calendar_format.specs.Reading.{duties_in}
use Rattle.calendar_reading.specs.Reading.{Left, leaves, given, given_if, reading}
use Rattle.planner_calendar.specs.FileCalendar.{CalendarIs}
use Rattle.planner_calendar.proofs.Within.{written-within}

-- ---- a calendar

pub all-written : (input : List ℕ) (driver : ℕ) (stamp O : List ℕ) (b : Bool) (O' : List ℕ) (r : Answered ℕ) (n : ℕ) → CalendarIs input driver stamp O b O' r → r ≡ Ok n → n ≤ length O'
all-written input driver stamp O b O' r n h e = written-within input driver stamp O b O' n (subst (CalendarIs input driver stamp O b O') e h)

-- ---- duties

rows_long : (D : List Duty) → length (duty_rows D) ≡ length D
unfolding duty_rows
rows_long [] = refl
rows_long (x ∷ D) = ap suc (rows_long D)

days_long : (D : List Duty) → length (duty_days D) ≡ length D
unfolding duty_days
days_long [] = refl
days_long (x ∷ D) = ap suc (days_long D)

module _ (O U O' U' : List ℕ) (n : ℕ) where
  refused_not : (k : Refusal) → leaves (Ok n) O' U' ≡ leaves (Err k) O U → (n ≤ length O') × (n ≤ length U')
  refused_not k w = absurd (ok-err n k (ap (λ (x : Left). x.answer) w))

  given_so : (D : List Duty) (b : Bool)
      → leaves (Ok n) O' U' ≡ cond b (leaves (Ok (length D)) (fronted (duty_rows D) O) (fronted (duty_days D) U)) (leaves (Err refusal.Room) O U)
      → (n ≤ length O') × (n ≤ length U')
  given_so D true w =
      let answers : Ok n ≡ Ok (length D) = ap (λ (x : Left). x.answer) w in
      let same : n ≡ length D = cc in
      let rows : O' ≡ fronted (duty_rows D) O = ap (λ (x : Left). x.rows) w in
      let days : U' ≡ fronted (duty_days D) U = ap (λ (x : Left). x.days) w in
      (omega (arith, same, ap length rows, rows_long D, length-append (duty_rows D) (drop (length (duty_rows D)) O)), omega (arith, same, ap length days, days_long D, length-append (duty_days D) (drop (length (duty_days D)) U)))
  given_so D false w = refused_not refusal.Room w

  read_so : (x : Option (List Duty)) → leaves (Ok n) O' U' ≡ given_if x O U → (n ≤ length O') × (n ≤ length U')
  unfolding given_if given
  read_so None w = refused_not refusal.NoCalendar w
  read_so (Some D) w = given_so D (leb (length D) (length O) && leb (length D) (length U)) w

module _ (input O U O' U' : List ℕ) (r : Answered ℕ) (n : ℕ) (h : leaves r O' U' ≡ reading input O U) (e : r ≡ Ok n) where
  both_read : (n ≤ length O') × (n ≤ length U')
  both_read = read_so O U O' U' n (duties_in input) (ap (λ (x : Answered ℕ). leaves x O' U') (sym e) ∙ h)

  pub rows_read : n ≤ length O'
  rows_read = both_read.0

  pub days_read : n ≤ length U'
  days_read = both_read.1

  pub as_many : length O' ≡ 128 → (length (take n O') ≡ length (take n U')) × (length (take n O') ≤ 128)
  as_many l = let a = length-take-le n O' rows_read in let b = length-take-le n U' days_read in (a ∙ sym b, omega (arith, a, rows_read))

-- the records of 128 duties have their room
pub records-within : (rows n long : ℕ) → rows ≤ 128 → n ≤ 9 + 43 * rows → 5513 ≡ long → n ≤ long
records-within rows n long l h e = omega arith
