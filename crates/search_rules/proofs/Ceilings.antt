-- The ceiling of the asks is a number of the machine, and its steps. Assumes nothing.
use Prim.Native.Nat.{ℕ, zero, suc, ◌+◌, ◌-◌, ◌*◌, ◌≤◌, ◌<◌, ◌^◌}
use mathlib.Core.Path.{◌≡◌, refl}
use native.Mathlib.Nat.{mul-le-mul, mul-le-mul_left}
use native.Mathlib.Omega.{arith}
use Rattle.search_rules.specs.Ceiling.{try_ceiling}

at_most : (c d : ℕ) → c ≤ 64 → try_ceiling c d ≤ try_ceiling 64 d
unfolding try_ceiling
at_most c zero h = omega arith
at_most c (suc d) h = omega (arith, mul-le-mul h (at_most c d h))

one_deeper : (d : ℕ) → try_ceiling 64 d ≤ try_ceiling 64 (suc d)
unfolding try_ceiling
one_deeper zero = omega arith
one_deeper (suc d) = omega (arith, mul-le-mul_left 64 (one_deeper d))

deeper : (k d : ℕ) → try_ceiling 64 d ≤ try_ceiling 64 (d + k)
deeper zero d = let s : d + 0 ≡ d = omega arith in rw s (omega arith)
deeper (suc k) d = let s : d + suc k ≡ suc (d + k) = omega arith in rw s (omega (arith, deeper k d, one_deeper (d + k)))

eight : 2 + try_ceiling 64 8 < 2 ^ 60
unfolding try_ceiling
eight = omega arith

pub ceiling_fits : (c d : ℕ) → c ≤ 64 → d ≤ 8 → 2 + try_ceiling c d < 2 ^ 60
ceiling_fits c d h k = let s : d + (8 - d) ≡ 8 = omega arith in omega (arith, eight, at_most c d h, rw s at (deeper (8 - d) d))

pub ceiling_zero : (c d : ℕ) → d ≡ 0 → 1 ≡ try_ceiling c d
unfolding try_ceiling
ceiling_zero c zero e = refl
ceiling_zero c (suc d) e = absurd (omega arith)

pub ceiling_more : (c d : ℕ) → (d ≡ 0 → ⊥) → try_ceiling c d ≡ 1 + c + c * try_ceiling c (d - 1)
unfolding try_ceiling
ceiling_more c zero e = absurd (e refl)
ceiling_more c (suc d) e = let s : suc d - 1 ≡ d = omega arith in rw s
