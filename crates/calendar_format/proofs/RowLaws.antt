-- No row's number begins another's, where a hyphen stands behind. Assumes nothing.
use Prim.Native.Nat.{ℕ, ◌/◌, ◌^◌, ◌<◌}
use mathlib.Core.Path.{◌≡◌, refl, sym, ap, ap₂, ◌∙◌}
use mathlib.Core.Bool.{Bool, true, false}
use mathlib.Core.List.{List, [], ◌∷◌, ◌++◌}
use native.Mathlib.Omega.{arith}
use lib.Dec.{leb}
use borrow.Author.Tests.{le-leb}
use Rattle.basics.specs.Tests.{all}
use Rattle.basics.proofs.Bools.{clash, and_left, and_right, and_join}
use Rattle.basics.proofs.Lists.{all_append}
use Rattle.decimals.specs.Decimals.{last_digit, digits}
use Rattle.decimals.proofs.DigitLaws.{digits_one, digits_more, digit_by_digit}
use Rattle.decimals.proofs.Determined.{one_number}

-- two lists of octets that pass a test, before an octet that does not
pub same-before : (p : ℕ → Bool) (c : ℕ) → p c ≡ false → (xs ys a b : List ℕ) → all p xs ≡ true → all p ys ≡ true → xs ++ (c ∷ a) ≡ ys ++ (c ∷ b) → xs ≡ ys
unfolding all
same-before p c n [] [] a b k m e = refl
same-before p c n [] (y ∷ ys) a b k m e =
    let q : c ≡ y = cc in absurd (clash (and_left (p y) _ m) (ap p (sym q) ∙ n))
same-before p c n (x ∷ xs) [] a b k m e =
    let q : x ≡ c = cc in absurd (clash (and_left (p x) _ k) (ap p q ∙ n))
same-before p c n (x ∷ xs) (y ∷ ys) a b k m e =
    let q : x ≡ y = cc in
    let t : xs ++ (c ∷ a) ≡ ys ++ (c ∷ b) = cc in
    ap₂ ◌∷◌ q (same-before p c n xs ys a b (and_right (p x) _ k) (and_right (p y) _ m) t)

-- the digit 0 or past it, as digits and a stamp's two letters are
abbrev pub figure : ℕ → Bool
figure b = leb 48 b

last_figure : (n : ℕ) → all figure (last_digit n ∷ []) ≡ true
unfolding all
last_figure n = rw (le-leb 48 (last_digit n) (omega arith))

pub digits_figures : (n : ℕ) → all figure (digits n) ≡ true
digits_figures =
    digit_by_digit (λ (n : ℕ). all figure (digits n) ≡ true)
    (λ n l. rw (digits_one n l) (last_figure n))
    (λ n g rest. rw (digits_more n g, all_append figure (digits (n / 10)) (last_digit n ∷ [])) (and_join rest (last_figure n)))

pub same_row : (r q : ℕ) (a b : List ℕ) → r < 2 ^ 64 → q < 2 ^ 64 → digits r ++ (45 ∷ a) ≡ digits q ++ (45 ∷ b) → r ≡ q
same_row r q a b k m e = one_number r q k m (same-before figure 45 refl (digits r) (digits q) a b (digits_figures r) (digits_figures q) e)
