-- Tests over lists and over the numbers below a bound, counts of what passes a test, and the first that does.
use Rattle.std.specs.Prelude.{ℕ, zero, suc, ◌+◌, Bool, true, false, not, cond, ◌&&◌, ◌||◌, List, [], ◌∷◌, ◌++◌, eqb, Option, None, Some}

-- every element passes
unfoldable pub all {ℓ} : {A : Type ℓ} → (A → Bool) → List A → Bool
all p [] = true
all p (x ∷ xs) = p x && all p xs

-- every number below n passes
unfoldable pub all_below : ℕ → (ℕ → Bool) → Bool
all_below zero p = true
all_below (suc n) p = all_below n p && p n

-- a test as a number
abbrev pub bit : Bool → ℕ
bit b = cond b 1 0

-- how many elements pass
unfoldable pub count {ℓ} : {A : Type ℓ} → (A → Bool) → List A → ℕ
count p [] = 0
count p (x ∷ xs) = bit (p x) + count p xs

-- how many numbers below n pass
unfoldable pub count_below : ℕ → (ℕ → Bool) → ℕ
count_below zero p = 0
count_below (suc n) p = count_below n p + bit (p n)

-- the numbers below n that pass, in rising order
unfoldable pub all_of_below : ℕ → (ℕ → Bool) → List ℕ
all_of_below zero p = []
all_of_below (suc n) p = all_of_below n p ++ cond (p n) (n ∷ []) []

-- f of each number below n, in order
unfoldable pub list_below : {A : Type 0} → ℕ → (ℕ → A) → List A
list_below zero f = []
list_below (suc n) f = list_below n f ++ (f n ∷ [])

-- the first number that passes, from i on, k numbers looked at
unfoldable pub first_from : (ℕ → Bool) → ℕ → ℕ → Option ℕ
first_from p i zero = None
first_from p i (suc k) = let later = first_from p (suc i) k in cond (p i) (Some i) later

-- x stands in the list
unfoldable pub among : ℕ → List ℕ → Bool
among x [] = false
among x (y ∷ ys) = eqb x y || among x ys

-- no number stands twice
unfoldable pub distinct : List ℕ → Bool
distinct [] = true
distinct (x ∷ xs) = not (among x xs) && distinct xs

-- the optional number is k
unfoldable pub is : ℕ → Option ℕ → Bool
is k None = false
is k (Some n) = eqb k n

-- the two lists are the same, number by number
unfoldable pub same_numbers : List ℕ → List ℕ → Bool
same_numbers [] [] = true
same_numbers [] (y ∷ ys) = false
same_numbers (x ∷ xs) [] = false
same_numbers (x ∷ xs) (y ∷ ys) = eqb x y && same_numbers xs ys
