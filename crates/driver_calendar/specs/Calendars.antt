-- A driver's duties, and what `driver_calendar` answers and leaves in its output. docs/RULES.md, 13.1 and 13.6.
use Rattle.std.specs.Prelude.{ℕ, zero, suc, Bool, true, false, cond, List, [], ◌∷◌, ◌++◌, eqb, leb, ℤ, length, Option, None, Some, Ok, Err}
use Rattle.refusals.specs.declared.Refusal.TheVariants as refusal
use Rattle.refusals.specs.Refusals.{Answered, Checked}
use Rattle.refusals.specs.declared.Refusal.{Refusal}
use Rattle.rules.specs.Board.{Board}
use Rattle.rules.specs.Roster.{Roster}
use Rattle.outputs.specs.Outputs.{fronted}
use Rattle.refusals.specs.Answers.{then_unless, then_room, unless_refused}
use Rattle.assignment_tables.specs.declared.Shape.{Shape}
use Rattle.assignment_tables.specs.Tables.{board}
use Rattle.assignment_index.specs.Index.{roster_in}
use Rattle.assignment_state.specs.Admission.{admission}
use Rattle.calendar_format.specs.Format.{Duty, object}
use Rattle.calendar_format.specs.Slices.{duty, duty_days, datable}
use Rattle.calendar_format.specs.Stamps.{is_stamp}

-- a row on its day, if it has one
unfoldable pub duty_on : ℕ → Option ℕ → List Duty
duty_on r None = []
duty_on r (Some d) = duty r d ∷ []

-- 13.1: a row that the driver holds, on the day that its sequence key is
unfoldable pub duty_at : (ℕ → ℕ → Option ℕ) → Roster → ℕ → ℕ → List Duty
duty_at sequence h v r = cond (eqb (h r) v) (duty_on r (sequence r v)) []

-- 13.1: those of the rows below n, rising
unfoldable pub duties_below : (ℕ → ℕ → Option ℕ) → Roster → ℕ → ℕ → List Duty
duties_below sequence h v zero = []
duties_below sequence h v (suc n) = duties_below sequence h v n ++ duty_at sequence h v n

-- 13.1: the driver's duties
abbrev pub duties : Board → Roster → ℕ → List Duty
duties B h v = duties_below B.sequence h v B.rows

-- an answer, and what stands in the output then
pub record Left : Type 0 where
  pub answer : Answered ℕ
  pub out : List ℕ

abbrev pub leaves : Answered ℕ → List ℕ → Left
leaves a O = record { answer = a; out = O }

unfoldable pub some_duty : List Duty → Bool
some_duty [] = false
some_duty (x ∷ D) = true

-- 13.6: behind a refusal that came before: 17 for the stamp, 16 without duties, 11 for a day too late, 7 for too little room
unfoldable pub calendar_refusal : Checked → List Duty → List ℕ → List ℕ → Checked
calendar_refusal before D s O =
    then_room (then_unless refusal.DayTooLate (then_unless refusal.NoDays (then_unless refusal.Stamp before (is_stamp s)) (some_duty D)) (datable (duty_days D))) (leb (length (object s D)) (length O))

-- 13.2: the object in front of the output, every octet behind it as it was
unfoldable pub calendar_left : Checked → List Duty → List ℕ → List ℕ → Left
calendar_left before D s O =
    unless_refused
    (λ (r : Refusal). leaves (Err r) O)
    (leaves (Ok (length (object s D))) (fronted (object s D) O))
    (calendar_refusal before D s O)

-- 13: of the roster that the records hold, behind the refusals of tables and index
abbrev pub calendaring : Shape → List ℕ → List ℕ → List ℤ → List ℕ → List ℕ → ℕ → List ℕ → List ℕ → Left
calendaring S m k p R M v s O =
    calendar_left (admission S m k p R M true) (duties (board S m k) (roster_in S.rows R) v) s O
