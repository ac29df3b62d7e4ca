-- What stands in front of the first comma or carriage return; a decimal form has neither. Assumes nothing.
use Prim.Native.Nat.{ℕ, ◌+◌, ◌/◌, ◌≤◌}
use mathlib.Core.Path.{◌≡◌, refl, sym, ap, ◌∙◌}
use mathlib.Core.Bool.{true, false, not}
use mathlib.Core.List.{List, [], ◌∷◌, ◌++◌, append-nil}
use native.Mathlib.Omega.{arith}
use lib.ListN.{length, take}
use borrow.Author.Tests.{lt-ltb, le-ltb, ne_eqb, not-true}
use Rattle.std.specs.List.{position, position_or_len}
use Rattle.std.specs.Prelude.{unwrap_or}
use Rattle.basics.specs.Tests.{all}
use Rattle.basics.proofs.Bools.{by, either, and_left, and_right, and_join}
use Rattle.basics.proofs.Lists.{all_append}
use Rattle.decimals.specs.Decimals.{last_digit, digits}
use Rattle.decimals.specs.Fields.{ends, front}
use Rattle.decimals.proofs.DigitLaws.{digits_one, digits_more, digit_by_digit}

-- ---- one byte more

front_none : front [] ≡ []
unfolding front
front_none = refl

pub front_stop : (b : ℕ) (l : List ℕ) → ends b ≡ true → front (b ∷ l) ≡ []
unfolding front
front_stop b l t = rw t

pub front-more : (b : ℕ) (l : List ℕ) → ends b ≡ false → front (b ∷ l) ≡ b ∷ front l
unfolding front
front-more b l f = rw f

-- ---- the front of a list, and what is behind it

pub front-taken : (l : List ℕ) → take (length (front l)) l ≡ front l
unfolding front
front-taken [] = refl
front-taken (b ∷ l) = either (ends b) (λ t. rw t) (λ f. rw f (ap (λ (x : List ℕ). b ∷ x) (front-taken l)))

pub front_short : (l : List ℕ) → length (front l) ≤ length l
unfolding front
front_short [] = omega arith
front_short (b ∷ l) = either (ends b) (λ t. rw t (omega arith)) (λ f. rw f (omega (arith, front_short l)))

-- how long it is, in the library's words
front-long : (l : List ℕ) → position_or_len ends l ≡ length (front l)
unfolding front
front-long [] = refl
front-long (b ∷ l) = either (ends b) (λ t. rw t) (λ f. rw f (ap (λ (n : ℕ). 1 + n) (front-long l) ∙ omega arith))

pub field_long : (l : List ℕ) → unwrap_or (position ends l) (length l) ≡ length (front l)
field_long l =
    by (position_or_len ends l) (length l)
    (λ h. rw (lt-ltb (position_or_len ends l) (length l) h) (front-long l))
    (λ g. rw (le-ltb (position_or_len ends l) (length l) g) (omega (arith, front-long l, front_short l)))

-- no byte of the list ends a field
abbrev pub Plain : List ℕ → Type 0
Plain l = all (λ (b : ℕ). not (ends b)) l ≡ true

pub front_plain : (xs ys : List ℕ) → Plain xs → front (xs ++ ys) ≡ xs ++ front ys
unfolding all
front_plain [] ys p = refl
front_plain (x ∷ xs) ys p =
    front-more x (xs ++ ys) (not-true (ends x) (and_left (not (ends x)) _ p)) ∙ ap (λ (l : List ℕ). x ∷ l) (front_plain xs ys (and_right (not (ends x)) _ p))

-- a plain list before a byte that ends it, and at the end
pub front-before : (xs ys : List ℕ) (b : ℕ) → Plain xs → ends b ≡ true → front (xs ++ (b ∷ ys)) ≡ xs
front-before xs ys b p t = front_plain xs (b ∷ ys) p ∙ ap (λ (l : List ℕ). xs ++ l) (front_stop b ys t) ∙ append-nil xs

pub front-whole : (xs : List ℕ) → Plain xs → front xs ≡ xs
front-whole xs p = ap front (sym (append-nil xs)) ∙ front_plain xs [] p ∙ ap (λ (l : List ℕ). xs ++ l) front_none ∙ append-nil xs

digit_plain : (n : ℕ) → Plain (last_digit n ∷ [])
unfolding all ends
digit_plain n = rw (ne_eqb (last_digit n) 44 (λ e. omega arith), ne_eqb (last_digit n) 13 (λ e. omega arith))

pub digits_plain : (n : ℕ) → Plain (digits n)
digits_plain =
    digit_by_digit (λ (n : ℕ). Plain (digits n))
    (λ n l. rw (digits_one n l) (digit_plain n))
    (λ n g rest. rw (digits_more n g, all_append (λ (b : ℕ). not (ends b)) (digits (n / 10)) (last_digit n ∷ [])) (and_join rest (digit_plain n)))
