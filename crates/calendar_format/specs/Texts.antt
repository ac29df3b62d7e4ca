-- Fixed texts and numbers of k digits, at the front of octets. docs/RULES.md, 13.2 to 13.5.
use Rattle.std.specs.Prelude.{ℕ, zero, suc, ◌+◌, ◌*◌, ◌-◌, ◌/◌, cond, ◌&&◌, List, [], ◌∷◌, ◌++◌, eqb, leb, length, take, drop, Option, None, Some, option_and_then}
use Rattle.decimals.specs.Decimals.{last_digit}

-- the last k digits of a number, zeros in front where it has fewer
unfoldable pub padded : ℕ → ℕ → List ℕ
padded zero n = []
padded (suc k) n = padded k (n / 10) ++ (last_digit n ∷ [])

-- 10 to the power of k
unfoldable pub tens : ℕ → ℕ
tens zero = 1
tens (suc k) = tens k * 10

-- what stands behind a fixed text
unfoldable pub after : List ℕ → List ℕ → Option (List ℕ)
after [] l = Some l
after (p ∷ ps) [] = None
after (p ∷ ps) (b ∷ l) = let more = after ps l in cond (eqb p b) more None

-- `option_and_then`, with what is found in front, as the steps are read
unfoldable pub then : {A B : Type 0} → Option A → (A → Option B) → Option B
then o f = option_and_then f o

-- what is made of what is found, or what else there is
unfoldable pub or_else : {A B : Type 0} → Option A → (A → B) → B → B
or_else None f b = b
or_else (Some a) f b = f a

-- a number with a digit behind it
unfoldable pub digit_on : ℕ → ℕ → Option ℕ
digit_on v b = cond (leb 48 b && leb b 57) (Some (v * 10 + (b - 48))) None

-- the digits behind v
unfoldable pub value_from : ℕ → List ℕ → Option ℕ
value_from v [] = Some v
value_from v (b ∷ l) = then (digit_on v b) (λ w. value_from w l)

-- the number that k digits are
unfoldable pub value_of : ℕ → List ℕ → Option ℕ
value_of k t = cond (eqb (length t) k) (value_from 0 t) None

-- a number of k digits, and what stands behind
unfoldable pub number_at : ℕ → List ℕ → Option (ℕ × List ℕ)
number_at k l = then (value_of k (take k l)) (λ n. Some (n, drop k l))
