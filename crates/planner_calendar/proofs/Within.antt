-- What is written lies within the output. Assumes nothing.
use Prim.Native.Nat.{ℕ, ◌≤◌}
use mathlib.Core.Path.{◌≡◌, ap}
use mathlib.Core.Logic.{◌⊎◌, inl, inr}
use mathlib.Core.Bool.{Bool, true}
use mathlib.Core.List.{List}
use native.Mathlib.Omega.{arith}
use lib.ListN.{length, drop, length-append}
use Rattle.std.specs.Prelude.{Ok, Err}
use Rattle.refusals.proofs.AnswerLaws.{ok-err}
use Rattle.refusals.specs.Refusals.{Checked}
use Rattle.refusals.specs.declared.Refusal.{Refusal}
use Rattle.basics.proofs.Bools.{either}
use Rattle.refusals.specs.declared.Refusal.TheVariants as refusal
use Rattle.outputs.specs.Outputs.{fronted}
use Rattle.refusals.specs.Answers.{unless_refused}
use Rattle.listing_format.specs.Format.{Record, Accepted}
use Rattle.listing_shape.proofs.Determined.{decided}
use Rattle.calendar_format.specs.Format.{Duty, object}
use Rattle.driver_calendar.specs.Calendars.{Left, leaves, calendar_left}
use Rattle.planner_calendar.specs.FileCalendar.{CalendarIs}

left_of : (D : List Duty) (s O O' : List ℕ) (n : ℕ) (k : Checked)
    → leaves (Ok n) O' ≡ unless_refused (λ (r : Refusal). leaves (Err r) O) (leaves (Ok (length (object s D))) (fronted (object s D) O)) k → n ≤ length O'
unfolding unless_refused
left_of D s O O' n (Ok x) w =
    let answers : Ok n ≡ Ok (length (object s D)) = ap (λ (x : Left). x.answer) w in
    let same : n ≡ length (object s D) = cc in
    let bytes : O' ≡ fronted (object s D) O = ap (λ (x : Left). x.out) w in
    omega (arith, same, ap length bytes, length-append (object s D) (drop (length (object s D)) O))
left_of D s O O' n (Err r) w = absurd (ok-err n r (ap (λ (x : Left). x.answer) w))

pub written-within : (input : List ℕ) (driver : ℕ) (stamp O : List ℕ) (b : Bool) (O' : List ℕ) (n : ℕ) → CalendarIs input driver stamp O b O' (Ok n) → n ≤ length O'
unfolding calendar_left
written-within input driver stamp O b O' n w =
    either b
    (λ t. go t (decided input))
    (λ f. absurd (ok-err n refusal.Room (ap (λ (x : Left). x.answer) (w.no_scratch f))))
  where
    go : b ≡ true → ((rs : List Record) × Accepted input rs) ⊎ ((rs : List Record) → Accepted input rs → ⊥) → n ≤ length O'
    go t (inl (rs, a)) = left_of _ stamp O O' n _ (w.file t rs a)
    go t (inr m) = absurd (ok-err n refusal.Malformed (ap (λ (x : Left). x.answer) (w.malformed t m)))
