-- The decimal form, digit by digit. Assumes nothing.
use Prim.Native.Nat.{ℕ, zero, suc, ◌+◌, ◌*◌, ◌/◌, ◌%◌, ◌≤◌, ◌<◌}
use mathlib.Core.Path.{◌≡◌, refl, sym, ap, ◌∙◌}
use mathlib.Core.List.{List, [], ◌∷◌, ◌++◌}
use native.Mathlib.Omega.{arith}
use lib.ListN.{length, get_or, length-append, get_or-append}
use borrow.Author.Tests.{lt-ltb, le-ltb}
use Rattle.basics.proofs.Bools.{by}
use Rattle.decimals.specs.Decimals.{last_digit, digits_by, digits}

-- ---- the two equations

by_one : (k n : ℕ) → n < 10 → digits_by k n ≡ last_digit n ∷ []
unfolding digits_by
by_one zero n h = refl
by_one (suc k) n h = rw (lt-ltb n 10 h)

by_more : (k n : ℕ) → 10 ≤ n → digits_by (suc k) n ≡ digits_by k (n / 10) ++ (last_digit n ∷ [])
unfolding digits_by
by_more k n h = rw (le-ltb n 10 h)

-- more digits than there are change nothing
by_enough : (k m n : ℕ) → n ≤ k → n ≤ m → digits_by k n ≡ digits_by m n
by_enough zero m n a b = by_one zero n (omega arith) ∙ sym (by_one m n (omega arith))
by_enough (suc k) zero n a b = by_one (suc k) n (omega arith) ∙ sym (by_one zero n (omega arith))
by_enough (suc k) (suc m) n a b =
    by n 10
    (λ l. by_one (suc k) n l ∙ sym (by_one (suc m) n l))
    (λ g. by_more k n g ∙ ap (λ (l : List ℕ). l ++ (last_digit n ∷ [])) (by_enough k m (n / 10) (omega arith) (omega arith)) ∙ sym (by_more m n g))

pub digits_one : (n : ℕ) → n < 10 → digits n ≡ last_digit n ∷ []
unfolding digits
digits_one n h = by_one n n h

pub digits_more : (n : ℕ) → 10 ≤ n → digits n ≡ digits (n / 10) ++ (last_digit n ∷ [])
unfolding digits
digits_more n h = by_enough n (suc n) n (omega arith) (omega arith) ∙ by_more n n h ∙ ap (λ (l : List ℕ). l ++ (last_digit n ∷ [])) (by_enough n (n / 10) (n / 10) (omega arith) (omega arith))

-- what holds of the numbers below ten, and of each number that holds of its tenth, holds of all
pub digit_by_digit : (P : ℕ → Type 0) → ((n : ℕ) → n < 10 → P n) → ((n : ℕ) → 10 ≤ n → P (n / 10) → P n) → (n : ℕ) → P n
digit_by_digit P one more n = below n n (omega arith)
  where
    below : (k n : ℕ) → n ≤ k → P n
    below zero n h = one n (omega arith)
    below (suc k) n h = by n 10 (λ l. one n l) (λ g. more n g (below k (n / 10) (omega arith)))

-- ---- lengths, and the first digit

pub length_one : (n : ℕ) → n < 10 → length (digits n) ≡ 1
length_one n h = ap length (digits_one n h)

pub length_more : (n : ℕ) → 10 ≤ n → length (digits n) ≡ length (digits (n / 10)) + 1
length_more n h = ap length (digits_more n h) ∙ length-append (digits (n / 10)) (last_digit n ∷ [])

pub length_pos : (n : ℕ) → 1 ≤ length (digits n)
length_pos n = by n 10 (λ l. omega (arith, length_one n l)) (λ g. omega (arith, length_more n g))

-- a number below a thousand has three digits at most
pub digits_three : (n : ℕ) → n < 1000 → length (digits n) ≤ 3
digits_three n h =
    by n 10
    (λ l. omega (arith, length_one n l))
    (λ g. by (n / 10) 10
    (λ l. omega (arith, length_more n g, length_one (n / 10) l))
    (λ k. omega (arith, length_more n g, length_more (n / 10) k, length_one (n / 10 / 10) (omega arith))))

pub first-digit : (n : ℕ) → 1 ≤ n → 49 ≤ get_or (digits n) 0 0
first-digit = digit_by_digit (λ (n : ℕ). 1 ≤ n → 49 ≤ get_or (digits n) 0 0)
    (λ n l p. rw (digits_one n l) (omega arith))
    (λ n g rest p. rw (digits_more n g, get_or-append (digits (n / 10)) (last_digit n ∷ []) 0 0 (length_pos (n / 10))) (rest (omega arith)))

-- a digit behind a positive number
pub digits-behind : (v d : ℕ) → 1 ≤ v → d < 10 → digits (v * 10 + d) ≡ digits v ++ ((d + 48) ∷ [])
digits-behind v d p l =
    let tenth : (v * 10 + d) / 10 ≡ v = omega arith in
    let unit : (v * 10 + d) % 10 ≡ d = omega arith in
    digits_more (v * 10 + d) (omega arith) ∙ rw (tenth, unit)
