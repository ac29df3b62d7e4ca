-- A bit a row, and one more bit. Assumes nothing.
use Prim.Native.Nat.{ℕ, ◌+◌, ◌-◌, ◌^◌, ◌≤◌, ◌<◌}
use mathlib.Core.Path.{◌≡◌, fun_ext}
use mathlib.Core.Bool.{false}
use native.Mathlib.Omega.{arith}
use lib.Dec.{eqb, ltb}
use borrow.Author.Tests.{eqb-true, eq-eqb, ne_eqb, lt-ltb, le-ltb, ltb-true, ltb-false}
use Rattle.basics.proofs.Bools.{either, same_test}
use Rattle.word_bits.specs.Bits.{bit_at}
use Rattle.word_bits.proofs.Bits.{no_bits, bit-set}
use Rattle.word_bits.specs.declared.Visiting.{Visiting}
use Rattle.word_bits.specs.Marks.{marked, no_row, one_more}

-- a row's bit, by the word that it stands in
module _ (visiting : Visiting) (row : ℕ) where
  pub low-marked : row < 64 → bit_at visiting.low row ≡ marked visiting row
  unfolding marked
  low-marked l = rw (lt-ltb row 64 l)

  pub high-marked : 64 ≤ row → bit_at visiting.high (row - 64) ≡ marked visiting row
  unfolding marked
  high-marked l = rw (le-ltb row 64 l)

pub none_marked : marked (record { low = 0; high = 0 }) ≡ no_row
unfolding marked
none_marked = fun_ext (λ o. either (ltb o 64) (λ t. rw t (no_bits o)) (λ f. rw f (no_bits (o - 64))))

module _ (low high row : ℕ) where
  abbrev before : Visiting
  before = record { low = low; high = high }

  pub low-more : row < 64 → bit_at low row ≡ false → marked (record { low = low + 2 ^ row; high = high }) ≡ one_more row (marked before)
  unfolding marked
  low-more l f =
      fun_ext (λ o. either (ltb o 64)
      (λ t. rw t (bit-set row low o f))
      (λ n. let past = ltb-false o 64 n in rw (n, ne_eqb o row (λ q. omega arith))))

  -- rows of the second word are told apart as their bits are
  apart : (o : ℕ) → 64 ≤ o → 64 ≤ row → eqb (o - 64) (row - 64) ≡ eqb o row
  apart o a b =
      same_test (eqb (o - 64) (row - 64)) (eqb o row)
      (λ t. let q = eqb-true (o - 64) (row - 64) t in eq-eqb o row (omega arith))
      (λ t. let q = eqb-true o row t in eq-eqb (o - 64) (row - 64) (omega arith))

  pub high-more : 64 ≤ row → bit_at high (row - 64) ≡ false → marked (record { low = low; high = high + 2 ^ (row - 64) }) ≡ one_more row (marked before)
  unfolding marked
  high-more l f =
      fun_ext (λ o. either (ltb o 64)
      (λ t. let under = ltb-true o 64 t in rw (t, ne_eqb o row (λ q. omega arith)))
      (λ n. let past = ltb-false o 64 n in rw (n, ← apart o past l) (bit-set (row - 64) high (o - 64) f)))
