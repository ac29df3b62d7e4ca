-- Places in a text stand for the bytes from there on. docs/RULES.md, 12.1.
use Rattle.std.specs.Prelude.{ℕ, ◌≤◌, ◌≡◌, List, length, drop, Option, None, Some, MatchOption}
use Rattle.listing_format.specs.Parsing.{Read}
use Rattle.listing_fields.specs.declared.Field.{Field}
use Rattle.listing_fields.specs.declared.Needed.{Needed}

-- the bytes from the place on are those that are left
abbrev pub PlaceIs : List ℕ → Option (List ℕ) → Option ℕ → Type 0
PlaceIs bytes left place = MatchOption place (left ≡ None) (λ (next : ℕ). (next ≤ length bytes) × (left ≡ Some (drop next bytes)))

-- what was read, and the place is behind it
abbrev pub FieldIs : List ℕ → Read (Option ℕ) → Option Field → Type 0
FieldIs bytes read field = MatchOption field (read ≡ None) (λ (f : Field). (f.next ≤ length bytes) × (read ≡ Some (f.key, drop f.next bytes)))

abbrev pub NeededIs : List ℕ → Read ℕ → Option Needed → Type 0
NeededIs bytes read field = MatchOption field (read ≡ None) (λ (f : Needed). (f.next ≤ length bytes) × (read ≡ Some (f.number, drop f.next bytes)))
