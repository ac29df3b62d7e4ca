-- What the bits of a word are once one more is set: each law goes from the lowest bit up, a word by its half. Assumes nothing.
use Prim.Native.Nat.{ℕ, zero, suc, ◌+◌, ◌*◌, ◌/◌, ◌%◌, ◌^◌, ◌<◌}
use mathlib.Core.Path.{◌≡◌, sym, ◌∙◌}
use mathlib.Core.Bool.{false, ◌||◌}
use native.Mathlib.Nat.{div-one, zero-div, one-mul, pow-succ', div-div-eq-div-mul}
use native.Mathlib.Omega.{arith}
use lib.Dec.{eqb, lit<, eqb-zero-suc, eqb-suc-zero, eqb-suc-suc}
use lib.Pow.{shl_exact}
use borrow.Author.Tests.{eqb-false, eq-eqb}
use Rattle.word_bits.specs.Bits.{bit_at}

-- the lowest bit, and the others
low_bit : (w : ℕ) → bit_at w 0 ≡ eqb (w % 2) 1
unfolding bit_at
low_bit w = rw (div-one w)

next_bit : (w b : ℕ) → bit_at w (suc b) ≡ bit_at (w / 2) b
unfolding bit_at
next_bit w b = rw (pow-succ' 2 b, div-div-eq-div-mul w 2 (2 ^ b))

-- a word whose lowest bit is not set is even
even : (w : ℕ) → bit_at w 0 ≡ false → w % 2 ≡ 0
even w h = let odd = eqb-false (w % 2) 1 (sym (low_bit w) ∙ h) in omega arith

-- no bit of 0 is set
pub no_bits : (b : ℕ) → bit_at 0 b ≡ false
unfolding bit_at
no_bits b = rw (zero-div (2 ^ b))

-- the power of a bit of a word, as a shift makes it
pub shifted_one : (b : ℕ) → b < 64 → (1 * 2 ^ b) % 2 ^ 64 ≡ 2 ^ b
shifted_one b l = shl_exact 1 b 64 (lit< tt) (omega arith) ∙ one-mul (2 ^ b)

-- where a bit of an n-bit word is not set, its power can be added
pub room : (n b w : ℕ) → b < n → w < 2 ^ n → bit_at w b ≡ false → w + 2 ^ b < 2 ^ n
room zero b w l h f = absurd (omega arith)
room (suc n) zero w l h f = omega (arith, pow-succ' 2 n, even w f)
room (suc n) (suc b) w l h f =
    omega (arith, pow-succ' 2 n, pow-succ' 2 b, room n b (w / 2) (omega arith) (omega (arith, pow-succ' 2 n)) (sym (next_bit w b) ∙ f))

-- a word with one more bit has that bit, and those it had
pub bit-set : (b w c : ℕ) → bit_at w b ≡ false → bit_at (w + 2 ^ b) c ≡ eqb c b || bit_at w c
bit-set zero w zero f = let odd : (w + 1) % 2 ≡ 1 = omega (arith, even w f) in low_bit (w + 1) ∙ eq-eqb ((w + 1) % 2) 1 odd
bit-set zero w (suc c) f =
    let half : (w + 1) / 2 ≡ w / 2 = omega (arith, even w f) in
    next_bit (w + 1) c ∙ rw (half, eqb-suc-zero c) (sym (next_bit w c))
bit-set (suc b) w zero f =
    let same : (w + 2 ^ suc b) % 2 ≡ w % 2 = omega (arith, pow-succ' 2 b) in
    low_bit (w + 2 ^ suc b) ∙ rw (same, eqb-zero-suc b) (sym (low_bit w))
bit-set (suc b) w (suc c) f =
    let half : (w + 2 ^ suc b) / 2 ≡ w / 2 + 2 ^ b = omega (arith, pow-succ' 2 b) in
    next_bit (w + 2 ^ suc b) c
    ∙ rw (half, eqb-suc-suc c b, next_bit w c) (bit-set b (w / 2) c (sym (next_bit w b) ∙ f))
