-- A record as it is read, and the place behind its line. docs/RULES.md, 12.1.
use Rattle.std.specs.Prelude.{ℕ, ◌≤◌, ◌≡◌, List, length, drop, Option, None, Some, MatchOption}
use Rattle.listing_format.specs.Format.{Record}
use Rattle.listing_format.specs.Parsing.{Read}
use Rattle.listing_reading.specs.declared.Listed.{Listed}
use Rattle.listing_reading.specs.declared.Line.{Line}

-- the record that has these numbers
abbrev pub record_of : Listed → Record
record_of l = record { row = l.row; value = l.value; now = l.now; capacity = l.capacity; sequence = l.sequence }

abbrev pub LineIs : List ℕ → Read Record → Option Line → Type 0
LineIs bytes read line = MatchOption line (read ≡ None) (λ (l : Line). (l.next ≤ length bytes) × (read ≡ Some (record_of l.numbers, drop l.next bytes)))
