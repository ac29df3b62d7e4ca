-- Reading digit by digit, as the functions behind `read_decimal` do it; proofs/ReadingLaws.antt says that it is `Reads`.
use Rattle.std.specs.Prelude.{ℕ, ◌+◌, ◌*◌, ◌-◌, cond, ◌&&◌, List, [], ◌∷◌, leb, eqb, Option, None, Some, option_and_then}

-- a number with a digit behind it
unfoldable pub digit : ℕ → ℕ → Option ℕ
digit v b =
    cond (leb 48 b && leb b 57) (cond (leb (v * 10 + (b - 48)) 18446744073709551615) (Some (v * 10 + (b - 48))) None) None

-- the digits behind v
unfoldable pub read_on : ℕ → List ℕ → Option ℕ
read_on v [] = Some v
read_on v (b ∷ l) = option_and_then (λ (w : ℕ). read_on w l) (digit v b)

-- a 0 in front stands alone
unfoldable pub zero_then : List ℕ → Option ℕ
zero_then [] = Some 0
zero_then (b ∷ l) = None

-- a decimal without leading zeros
unfoldable pub decimal : List ℕ → Option ℕ
decimal [] = None
decimal (b ∷ l) = cond (eqb b 48) (zero_then l) (read_on 0 (b ∷ l))
