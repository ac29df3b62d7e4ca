-- Pieces of given lengths, one after another: years after years, months after months. docs/RULES.md, 13.3.
use Rattle.std.specs.Prelude.{ℕ, zero, suc, ◌+◌, ◌-◌, cond, ltb}
use Rattle.civil_dates.specs.declared.Part.{Part}

-- how long the first n pieces are
unfoldable pub total : (ℕ → ℕ) → ℕ → ℕ
total long zero = 0
total long (suc n) = total long n + long n

-- in which piece n lies, counted from the start of piece i, and where in it; k pieces are looked at
unfoldable pub part_by : (ℕ → ℕ) → ℕ → ℕ → ℕ → Part
part_by long zero i n = record { whole = i; rest = n }
part_by long (suc k) i n = let later = part_by long k (suc i) (n - long i) in cond (ltb n (long i)) (record { whole = i; rest = n }) later

-- in which piece n lies, and where in it
unfoldable pub part : (ℕ → ℕ) → ℕ → Part
part long n = part_by long n 0 n
