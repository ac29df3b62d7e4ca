-- The numbers of refusals. docs/RULES.md, 11.
use Rattle.std.specs.Prelude.{ℕ, Result, Ok}
use Rattle.refusals.specs.declared.Refusal.{Refusal}
use Rattle.refusals.specs.declared.Refusal.TheVariants as refusal

-- the table of docs/RULES.md, 11
abbrev pub number : Refusal → ℕ
number refusal.Sizes = 1
number refusal.Candidates = 2
number refusal.HeldValue = 3
number refusal.RowOutOfRange = 4
number refusal.RowNamedTwice = 5
number refusal.FalseIndex = 6
number refusal.Room = 7
number refusal.Depth = 8
number refusal.Malformed = 9
number refusal.Cursor = 10
number refusal.DayTooLate = 11
number refusal.NoCalendar = 13
number refusal.NoDays = 16
number refusal.Stamp = 17

-- what a function answers that may refuse
abbrev pub Answered : Type 0 → Type 0
Answered T = Result T Refusal

-- the same where nothing else is answered
abbrev pub Checked : Type 0
Checked = Answered (Unit {0})

abbrev pub accepted : Checked
accepted = Ok tt
