-- A few digits read by `decimals` are the number that the calendar means. Assumes nothing.
use Prim.Native.Nat.{ℕ, zero, suc, ◌+◌, ◌*◌, ◌-◌, ◌≤◌, ◌<◌}
use mathlib.Core.Path.{◌≡◌, refl}
use mathlib.Core.Bool.{true, false, ◌&&◌}
use mathlib.Core.List.{List, [], ◌∷◌}
use Rattle.std.specs.Prelude.{Option, None, Some}
use native.Mathlib.Omega.{arith}
use lib.Dec.{leb}
use lib.ListN.{length, take, drop}
use lib.Seq.{length-take-le}
use borrow.Author.Tests.{le-leb, leb-true, eq-eqb}
use Rattle.basics.proofs.Bools.{either, and_right}
use Rattle.decimals.specs.Reading.{digit, read_on}
use Rattle.calendar_format.specs.Texts.{tens, then, digit_on, value_from, value_of, number_at}
use Rattle.calendar_format.proofs.NumberLaws.{tens-more, tens_none, hundred, ten_thousand}

tens_few : (m : ℕ) → m ≤ 4 → tens m ≤ 10000
tens_few zero l = omega (arith, tens_none)
tens_few (suc zero) l = omega (arith, tens_none, tens-more 0)
tens_few (suc (suc zero)) l = omega (arith, hundred)
tens_few (suc (suc (suc zero))) l = omega (arith, hundred, tens-more 2)
tens_few (suc (suc (suc (suc zero)))) l = omega (arith, ten_thousand)
tens_few (suc (suc (suc (suc (suc m))))) l = absurd (omega arith)

module _ (v b : ℕ) (l : List ℕ) where
  digit_read : leb 48 b && leb b 57 ≡ true → leb (v * 10 + (b - 48)) 18446744073709551615 ≡ true → read_on (v * 10 + (b - 48)) l ≡ value_from (v * 10 + (b - 48)) l
      → read_on v (b ∷ l) ≡ value_from v (b ∷ l)
  unfolding read_on value_from digit digit_on then
  digit_read t u e = rw (t, u) e

  no_digit : leb 48 b && leb b 57 ≡ false → read_on v (b ∷ l) ≡ value_from v (b ∷ l)
  unfolding read_on value_from digit digit_on then
  no_digit f = rw f

-- m digits went before
reads_on : (m v : ℕ) (l : List ℕ) → v < tens m → m + length l ≤ 4 → read_on v l ≡ value_from v l
unfolding read_on value_from
reads_on m v [] k h = refl
reads_on m v (b ∷ l) k h =
    either (leb 48 b && leb b 57)
    (λ t.
    let hi = leb-true b 57 (and_right (leb 48 b) _ t) in
    let w : v * 10 + (b - 48) < tens (suc m) = omega (arith, tens-more m) in
    let few = tens_few (suc m) (omega arith) in
    digit_read v b l t (le-leb (v * 10 + (b - 48)) 18446744073709551615 (omega arith)) (reads_on (suc m) (v * 10 + (b - 48)) l w (omega arith)))
    (no_digit v b l)

pub read_value : (l : List ℕ) → length l ≤ 4 → read_on 0 l ≡ value_from 0 l
read_value l h = reads_on 0 0 l (omega (arith, tens_none)) (omega arith)

-- a number where there are digits enough
then_pair : {B : Type 0} (x : Option ℕ) (r : List ℕ) (f : ℕ × List ℕ → Option B) → then (then x (λ n. Some (n, r))) f ≡ then x (λ n. f (n, r))
unfolding then
then_pair None r f = refl
then_pair (Some n) r f = refl

pub number_here : {B : Type 0} (k : ℕ) (l : List ℕ) (f : ℕ × List ℕ → Option B) → k ≤ length l → then (number_at k l) f ≡ then (value_from 0 (take k l)) (λ n. f (n, drop k l))
unfolding number_at value_of
number_here k l f h = rw (eq-eqb (length (take k l)) k (length-take-le k l h)) (then_pair (value_from 0 (take k l)) (drop k l) f)
