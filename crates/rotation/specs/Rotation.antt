-- Going round a list, from a place that is counted modulo its length. docs/RULES.md, 8.1, 9.1 and 9.2.
use Rattle.std.specs.Prelude.{ℕ, ◌+◌, ◌%◌, List, ◌++◌, length, take, drop}

-- the list rotated to the left; an empty one stays as it is
unfoldable pub rotated : {A : Type 0} → ℕ → List A → List A
rotated k xs = drop (k % length xs) xs ++ take (k % length xs) xs

-- the place of its i-th element in the list, of n
unfoldable pub place_round : ℕ → ℕ → ℕ → ℕ
place_round k i n = (k % n + i) % n
