-- What `read_calendar` answers and leaves in its outputs. docs/RULES.md, 13.7 and 11.13.
use Rattle.std.specs.Prelude.{ℕ, cond, ◌&&◌, List, leb, length, Option, None, Some, Ok, Err}
use Rattle.refusals.specs.declared.Refusal.TheVariants as refusal
use Rattle.refusals.specs.Refusals.{Answered}
use Rattle.outputs.specs.Outputs.{fronted}
use Rattle.calendar_format.specs.Format.{Duty}
use Rattle.calendar_format.specs.Slices.{duty_rows, duty_days}
use Rattle.calendar_format.specs.Reading.{duties_in}

-- an answer, and what stands in the outputs then
pub record Left : Type 0 where
  pub answer : Answered ℕ
  pub rows : List ℕ
  pub days : List ℕ

abbrev pub leaves : Answered ℕ → List ℕ → List ℕ → Left
leaves a O U = record { answer = a; rows = O; days = U }

-- the duties in front, if both outputs have room for them
unfoldable pub given : List Duty → List ℕ → List ℕ → Left
given D O U =
    cond (leb (length D) (length O) && leb (length D) (length U))
    (leaves (Ok (length D)) (fronted (duty_rows D) O) (fronted (duty_days D) U))
    (leaves (Err refusal.Room) O U)

-- 13 for what is no calendar of ours
unfoldable pub given_if : Option (List Duty) → List ℕ → List ℕ → Left
given_if None O U = leaves (Err refusal.NoCalendar) O U
given_if (Some D) O U = given D O U

abbrev pub reading : List ℕ → List ℕ → List ℕ → Left
reading input O U = given_if (duties_in input) O U
