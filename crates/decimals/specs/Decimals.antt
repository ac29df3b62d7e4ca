-- The decimal form of a number, and what reading one means. docs/RULES.md, 12.1.
use Rattle.std.specs.Prelude.{ℕ, zero, suc, ◌+◌, ◌/◌, ◌%◌, ◌^◌, ◌<◌, ◌≡◌, cond, List, [], ◌∷◌, ◌++◌, ltb, Option, None, Some}

-- the byte of the last digit; the digit 0 is byte 48
abbrev pub last_digit : ℕ → ℕ
last_digit n = n % 10 + 48

-- the decimal form, of at most k digits and one more
unfoldable pub digits_by : ℕ → ℕ → List ℕ
digits_by zero n = last_digit n ∷ []
digits_by (suc k) n = let front = digits_by k (n / 10) in cond (ltb n 10) (last_digit n ∷ []) (front ++ (last_digit n ∷ []))

-- 12.1: the decimal form of n, without leading zeros; it never has more than n digits and one
unfoldable pub digits : ℕ → List ℕ
digits n = digits_by n n

-- 12.1: the answer that is right for these bytes: a number below 2^64 of which they are the form, or that there is none
abbrev pub Reads : List ℕ → Option ℕ → Type 0
Reads bytes (Some n) = (n < 2 ^ 64) × (bytes ≡ digits n)
Reads bytes None = (n : ℕ) → n < 2 ^ 64 → bytes ≡ digits n → ⊥
