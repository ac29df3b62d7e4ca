-- A place of a text stands for the octets from there on, with the folds left out. docs/RULES.md, 13.5.
use Rattle.std.specs.Prelude.{ℕ, ◌≤◌, ◌<◌, ◌≡◌, Bool, true, false, List, [], ◌∷◌, length, take, drop, Option, None, Some, MatchOption}
use Rattle.calendar_reading.specs.declared.octets.Octet.{Octet}
use Rattle.calendar_format.specs.Folding.{fold_here, unfolded}

-- the octets from a place on
abbrev pub from : List ℕ → ℕ → List ℕ
from bytes at = unfolded (drop at bytes)

-- no fold stands at the second place, and between the two stands nothing else
pub record Past (bytes : List ℕ) (at next : ℕ) : Type 0 where
  pub within : next ≤ length bytes
  pub same : from bytes at ≡ from bytes next
  pub no_fold : fold_here (drop next bytes) ≡ false

-- the first of the octets l, and where the others begin
abbrev pub OctetIs : List ℕ → List ℕ → Option Octet → Type 0
OctetIs bytes l octet = MatchOption octet (l ≡ []) (λ (o : Octet). (o.next ≤ length bytes) × (l ≡ o.octet ∷ from bytes o.next))

-- the octets that are left, where there is an answer, begin at the place
abbrev pub PlaceIs : List ℕ → Option (List ℕ) → Option ℕ → Type 0
PlaceIs bytes left place = MatchOption place (left ≡ None) (λ (next : ℕ). (next ≤ length bytes) × (left ≡ Some (from bytes next)))

-- the first n of the octets l were copied, and the others begin at the place; or there are fewer
abbrev pub CopiedIs : List ℕ → List ℕ → ℕ → List ℕ → Option ℕ → Type 0
CopiedIs bytes l n copy place = MatchOption place (length l < n) (λ (next : ℕ). (next ≤ length bytes) × (copy ≡ take n l) × (drop n l ≡ from bytes next) × (n ≤ length l))

unfoldable pub nothing : List ℕ → Bool
nothing [] = true
nothing (b ∷ l) = false
