-- A memory of ordered pairs of rows below 128: a bit for each pair, in 256 words of 64 bits, two words a left row.
use Rattle.std.specs.Prelude.{ℕ, ◌+◌, ◌*◌, ◌/◌, ◌%◌, ◌^◌, Bool, List, get_or, set, replicate}
use Rattle.word_bits.specs.Bits.{bit_at}

-- the place of a pair's word
abbrev pub word_of : ℕ → ℕ → ℕ
word_of l r = l * 2 + r / 64

-- the pair is remembered
unfoldable pub is_judged : List ℕ → ℕ → ℕ → Bool
is_judged J l r = bit_at (get_or J (word_of l r) 0) (r % 64)

-- no pair is remembered
unfoldable pub none_judged : List ℕ
none_judged = replicate 256 0

-- the pair is remembered too
unfoldable pub judged_with : List ℕ → ℕ → ℕ → List ℕ
judged_with J l r = set J (word_of l r) (get_or J (word_of l r) 0 + 2 ^ (r % 64))
