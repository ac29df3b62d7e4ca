-- Reading a driver's calendar from the front on: each row is tried in turn, so no row number is read. docs/RULES.md, 13.5.
use Rattle.std.specs.Prelude.{ℕ, zero, suc, cond, List, [], ◌∷◌, take, drop, Option, None, Some, option_map}
use Rattle.basics.specs.Tests.{same_numbers}
use Rattle.calendar_format.specs.Folding.{unfolded}
use Rattle.calendar_format.specs.Texts.{after, then, or_else}
use Rattle.calendar_format.specs.DateTexts.{day_of}
use Rattle.calendar_format.specs.Stamps.{is_stamp}
use Rattle.calendar_format.specs.Format.{Duty, header, closing, opening, lead, rest}

-- a duty, and then those that are read behind it
unfoldable pub prepend : Duty → Option (List Duty) → Option (List Duty)
prepend x o = option_map (λ (D : List Duty). x ∷ D) o

-- the day of an event of the row, and what stands behind the event
unfoldable pub event_at : List ℕ → ℕ → List ℕ → Option (ℕ × List ℕ)
event_at s r l =
    then (after (lead s r) l)
    (λ m. then (day_of (take 8 m))
    (λ d. then (after (rest r d) (drop 8 m))
    (λ n. Some (d, n))))

-- the events of k rows from r on, and the end
unfoldable pub events_from : ℕ → ℕ → List ℕ → List ℕ → Option (List Duty)
events_from zero r s l = cond (same_numbers l closing) (Some []) None
events_from (suc k) r s l =
    let skipped = events_from k (suc r) s l in
    or_else (event_at s r l) (λ p. prepend (record { row = r; day = p.0 }) (events_from k (suc r) s p.1)) skipped

-- the events behind the header; the first one's stamp is everyone's
unfoldable pub stamped_events : List ℕ → Option (List Duty)
stamped_events l = then (after opening l) (λ m. cond (is_stamp (take 16 m)) (events_from 128 0 (take 16 m) l) None)

-- the duties of a calendar, folded or not
unfoldable pub duties_in : List ℕ → Option (List Duty)
duties_in input = then (after header (unfolded input)) stamped_events
