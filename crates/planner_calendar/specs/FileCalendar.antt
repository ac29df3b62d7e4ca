-- What the calendar of a driver in a roster file is, and what is refused. docs/RULES.md, 12.1 to 12.3 and 13.
use Rattle.std.specs.Prelude.{ℕ, ◌≡◌, Bool, true, false, List, Err}
use Rattle.refusals.specs.declared.Refusal.TheVariants as refusal
use Rattle.refusals.specs.declared.Refusal.{Refusal}
use Rattle.refusals.specs.Refusals.{Answered}
use Rattle.listing_format.specs.Format.{Record, Accepted}
use Rattle.listing_shape.specs.FileBoard.{board_of, roster_from}
use Rattle.listing_shape.specs.Opening.{size_refusal}
use Rattle.driver_calendar.specs.Calendars.{Left, leaves, duties, calendar_left}

-- 11.11: a refusal leaves the output as it was
abbrev pub refused : Refusal → List ℕ → Left
refused r O = leaves (Err r) O

-- 12.3, 13: the calendar of a file's records: refused for too many rows or values, and then as any calendar is
abbrev pub file_calendar : List Record → ℕ → List ℕ → List ℕ → Left
file_calendar rs driver stamp O = calendar_left (size_refusal rs) (duties (board_of rs) (roster_from rs) driver) stamp O

-- 12.1: what `file_calendar` answers and leaves: of a roster file the driver's calendar, of any other input 9; nothing is read without the scratch
pub record CalendarIs (input : List ℕ) (driver : ℕ) (stamp O : List ℕ) (scratch : Bool) (O' : List ℕ) (a : Answered ℕ) : Type 0 where
  pub no_scratch : scratch ≡ false → leaves a O' ≡ refused refusal.Room O
  pub file : scratch ≡ true → (rs : List Record) → Accepted input rs → leaves a O' ≡ file_calendar rs driver stamp O
  pub malformed : scratch ≡ true → ((rs : List Record) → Accepted input rs → ⊥) → leaves a O' ≡ refused refusal.Malformed O
