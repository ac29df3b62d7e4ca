-- Which bits of a word are set.
use Rattle.std.specs.Prelude.{ℕ, ◌/◌, ◌%◌, ◌^◌, Bool, eqb}

-- the b-th bit of a word is set
unfoldable pub bit_at : ℕ → ℕ → Bool
bit_at w b = eqb (w / 2 ^ b % 2) 1
