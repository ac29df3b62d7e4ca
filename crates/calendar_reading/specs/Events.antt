-- What reading events answers, and leaves of their rows and days. docs/RULES.md, 13.5.
use Rattle.std.specs.Prelude.{ℕ, ◌+◌, ◌≤◌, ◌≡◌, List, length, set, Option, None, Some, MatchOption}
use Rattle.calendar_format.specs.Format.{Duty}
use Rattle.calendar_format.specs.Slices.{InFronts}
use Rattle.calendar_reading.specs.declared.events.Event.{Event}
use Rattle.calendar_reading.specs.declared.events.Reached.{Reached}
use Rattle.calendar_reading.specs.Places.{from}

-- what is read is the day, and the octets that are left begin at the place
abbrev pub EventIs : List ℕ → Option (ℕ × List ℕ) → Option Event → Type 0
EventIs bytes read event = MatchOption event (read ≡ None) (λ (e : Event). (e.next ≤ length bytes) × (read ≡ Some (e.day, from bytes e.next)))

-- a row was tried: where its event was read, it is a duty more, and else everything is as it was
pub record Tried (bytes : List ℕ) (row : ℕ) (read : Option (ℕ × List ℕ)) (rs ds : List ℕ) (before : Reached) (rs' ds' : List ℕ) (after : Reached) : Type 0 where
  pub within : after.place ≤ length bytes
  pub rows_long : length rs' ≡ length rs
  pub days_long : length ds' ≡ length ds
  pub few : after.count ≤ before.count + 1
  pub skipped : read ≡ None → (after ≡ before) × (rs' ≡ rs) × (ds' ≡ ds)
  pub added : (day : ℕ) (left : List ℕ) → read ≡ Some (day, left)
      → (left ≡ from bytes after.place) × (after.count ≡ before.count + 1) × (rs' ≡ set rs before.count row) × (ds' ≡ set ds before.count day)

-- the duties, where there are any, stand in the fronts
abbrev pub EventsAre : Option (List Duty) → List ℕ → List ℕ → Option ℕ → Type 0
EventsAre read rs ds count = MatchOption count (read ≡ None) (λ (n : ℕ). (D : List Duty) × (read ≡ Some D) × InFronts D rs ds n)
