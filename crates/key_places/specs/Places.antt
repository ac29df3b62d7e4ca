-- How many holders fit the places of a key. docs/RULES.md, 3.4.
use Rattle.std.specs.Prelude.{ℕ, Bool, false, leb, ℤ, pos, negsuc}

-- a signed number of holders fits the one place of a key; below zero it is no number of holders
abbrev pub fits_places : ℤ → Bool
fits_places (pos n) = leb n 1
fits_places (negsuc n) = false
