-- Rows below 128 as marks, a bit a row in two words. docs/RULES.md, 6.2: the rows being tried further up.
use Rattle.std.specs.Prelude.{ℕ, ◌-◌, Bool, false, cond, ◌||◌, eqb, ltb}
use Rattle.word_bits.specs.declared.Visiting.{Visiting}
use Rattle.word_bits.specs.Bits.{bit_at}

-- the row is marked
unfoldable pub marked : Visiting → ℕ → Bool
marked visiting o = cond (ltb o 64) (bit_at visiting.low o) (bit_at visiting.high (o - 64))

-- no row is
abbrev pub no_row : ℕ → Bool
no_row o = false

-- one row more than those that were
abbrev pub one_more : ℕ → (ℕ → Bool) → ℕ → Bool
one_more row rows o = eqb o row || rows o
