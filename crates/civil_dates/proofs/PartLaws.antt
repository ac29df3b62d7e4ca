-- Pieces one after another: each number lies in one of them, at one place. Assumes nothing.
use Prim.Native.Nat.{ℕ, zero, suc, ◌+◌, ◌-◌, ◌≤◌, ◌<◌}
use mathlib.Core.Path.{◌≡◌, refl, sym, ap}
use native.Mathlib.Omega.{arith}
use borrow.Author.Tests.{lt-ltb, le-ltb}
use Rattle.basics.proofs.Bools.{by}
use Rattle.civil_dates.specs.declared.Part.{Part}
use Rattle.civil_dates.specs.Parts.{total, part_by, part}

pub total-more : (long : ℕ → ℕ) (n : ℕ) → total long (suc n) ≡ total long n + long n
unfolding total
total-more long n = refl

pub total_none : (long : ℕ → ℕ) → total long 0 ≡ 0
unfolding total
total_none long = refl

total_rise : (long : ℕ → ℕ) (n k : ℕ) → total long n ≤ total long (n + k)
total_rise long n zero = let e : n + 0 ≡ n = omega arith in rw e (omega arith)
total_rise long n (suc k) = let e : n + suc k ≡ suc (n + k) = omega arith in rw e (omega (arith, total_rise long n k, total-more long (n + k)))

pub total_le : (long : ℕ → ℕ) (a b : ℕ) → a ≤ b → total long a ≤ total long b
total_le long a b l =
    let e : a + (b - a) ≡ b = omega arith in
    let q = total_rise long a (b - a) in
    rw e at q

-- pieces that are not empty
pub total_some : (long : ℕ → ℕ) → ((i : ℕ) → 1 ≤ long i) → (n : ℕ) → n ≤ total long n
total_some long some zero = omega arith
total_some long some (suc n) = omega (arith, total_some long some n, total-more long n, some n)

-- n lies in this part
pub record In (long : ℕ → ℕ) (n : ℕ) (p : Part) : Type 0 where
  pub sum : total long p.whole + p.rest ≡ n
  pub less : p.rest < long p.whole

in_by : (long : ℕ → ℕ) → ((i : ℕ) → 1 ≤ long i) → (k i n : ℕ) → n ≤ k → In long (total long i + n) (part_by long k i n)
unfolding part_by
in_by long some zero i n h = record { sum = refl; less = omega (arith, some i) }
in_by long some (suc k) i n h =
    by n (long i)
    (λ l. rw (lt-ltb n (long i) l) (record { sum = refl; less = l }))
    (λ g. let e : total long (suc i) + (n - long i) ≡ total long i + n = omega (arith, total-more long i) in
    let q = in_by long some k (suc i) (n - long i) (omega (arith, some i)) in
    rw (le-ltb n (long i) g) (rw e at q))

pub in_part : (long : ℕ → ℕ) → ((i : ℕ) → 1 ≤ long i) → (n : ℕ) → In long n (part long n)
unfolding part
in_part long some n =
    let e : total long 0 + n ≡ n = omega (arith, total_none long) in
    let q = in_by long some n 0 n (omega arith) in
    rw e at q

not_before : (long : ℕ → ℕ) (a b r s : ℕ) → total long a + r ≡ total long b + s → r < long a → a < b → ⊥
not_before long a b r s e l h = omega (arith, total-more long a, total_le long (suc a) b (omega arith))

pub one_part : (long : ℕ → ℕ) (a b r s : ℕ) → total long a + r ≡ total long b + s → r < long a → s < long b → (a ≡ b) × (r ≡ s)
one_part long a b r s e l m =
    by a b
    (λ h. absurd (not_before long a b r s e l h))
    (λ g. by b a
    (λ h. absurd (not_before long b a s r (sym e) m h))
    (λ k. let q : a ≡ b = omega arith in (q, omega (arith, ap (total long) q))))

-- a part is not past its number
pub part_few : (long : ℕ → ℕ) → ((i : ℕ) → 1 ≤ long i) → (n : ℕ) (p : Part) → p ≡ part long n → (p.whole ≤ n) × (p.rest ≤ n)
part_few long some n p e =
    let i = in_part long some n in
    let few = total_some long some (part long n).whole in
    rw e (omega (arith, i.sum, few), omega (arith, i.sum))
