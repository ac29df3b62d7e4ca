-- What the tests and counts over a list say of its elements, each law once. Assumes nothing.
use Prim.Native.Nat.{ℕ, zero, suc, ◌+◌, ◌≤◌, ◌<◌}
use mathlib.Core.Path.{◌≡◌, refl, sym, ap, ap₂, ◌∙◌}
use mathlib.Core.Logic.{◌↔◌, ⊎_elim}
use mathlib.Core.Bool.{Bool, true, false, not, ◌&&◌, ◌||◌, and-true, or-false}
use mathlib.Core.List.Memᴰ
use mathlib.Core.List.{List, [], ◌∷◌, ◌++◌, nil≢cons, Memᴰ}
use Rattle.std.specs.Prelude.{Option, None, Some}
use native.Mathlib.Nat.{eq-zero-or-pos, suc_inj}
use native.Mathlib.Omega.{arith}
use lib.Dec.{eqb}
use lib.ListN.{length, get_or}
use borrow.Author.Tests.{eqb-true, eq-eqb, not-true}
use Rattle.basics.specs.Tests.{all, bit, count, among, distinct, is, same_numbers}
use Rattle.basics.proofs.Bools.{decided, clash, same_test, and_left, and_right, and_join, and_assoc, or_left, or_right, or_cases, or_assoc, eqb_sym}

-- membership in a list
infix 4 ◌∈◌
abbrev pub ◌∈◌ {ℓ} : {A : Type ℓ} → A → List A → Type ℓ
a ∈ l = Memᴰ a l

-- a list without a length is empty
pub nothing : {A : Type 0} (xs : List A) → length xs ≡ 0 → xs ≡ []
nothing [] e = refl
nothing (x ∷ xs) e = absurd (omega arith)

-- what stands at a place is an element, and each element stands at a place
module _ {ℓ} {A : Type ℓ} (d : A) where
  pub at_place : (xs : List A) (i : ℕ) → i < length xs → get_or xs i d ∈ xs
  at_place [] i l = absurd (omega arith)
  at_place (x ∷ xs) zero l = Memᴰ.head refl
  at_place (x ∷ xs) (suc i) l = Memᴰ.tail (at_place xs i (omega arith))

  pub place_of : {x : A} {xs : List A} → x ∈ xs → (i : ℕ) × (i < length xs) × (get_or xs i d ≡ x)
  place_of (Memᴰ.head e) = (0, omega arith, sym e)
  place_of (Memᴰ.tail m) = let (i, l, e) = place_of m in (suc i, omega arith, e)

-- ---- all and count

pub bit_le : (b : Bool) → bit b ≤ 1
bit_le true = omega arith
bit_le false = omega arith

module _ {ℓ} {A : Type ℓ} (p : A → Bool) where
  pub all_at_lem : {x : A} {xs : List A} → all p xs ≡ true → x ∈ xs → p x ≡ true
  unfolding all
  all_at_lem h (Memᴰ.head {x} e) = ap p e ∙ and_left (p x) _ h
  all_at_lem h (Memᴰ.tail {x} m) = all_at_lem (and_right (p x) _ h) m

  pub all_of : (xs : List A) → ((x : A) → x ∈ xs → p x ≡ true) → all p xs ≡ true
  unfolding all
  all_of [] f = refl
  all_of (x ∷ xs) f = and_join (f x (Memᴰ.head refl)) (all_of xs (λ y m. f y (Memᴰ.tail m)))

  pub all_iff : (xs : List A) → all p xs ≡ true ↔ ((x : A) → x ∈ xs → p x ≡ true)
  all_iff xs = (λ h x m. all_at_lem h m, all_of xs)

  -- where not all pass, one does not
  pub all_not : (xs : List A) → all p xs ≡ false → (x : A) × (x ∈ xs) × (p x ≡ false)
  unfolding all
  all_not [] h = absurd (clash refl h)
  all_not (x ∷ xs) h =
      ⊎_elim
      (λ t. let (y, m, f) = all_not xs (rw t at h) in (y, Memᴰ.tail m, f))
      (λ f. (x, Memᴰ.head refl, f))
      (decided (p x))

  pub all_append : (xs ys : List A) → all p (xs ++ ys) ≡ all p xs && all p ys
  unfolding all
  all_append [] ys = refl
  all_append (x ∷ xs) ys = rw (all_append xs ys) (and_assoc (p x) (all p xs) (all p ys))

  pub all_snoc : (xs : List A) (x : A) → all p (xs ++ (x ∷ [])) ≡ all p xs && p x
  unfolding all
  all_snoc xs x = all_append xs (x ∷ []) ∙ ap (λ (b : Bool). all p xs && b) (and-true (p x))

  pub count-append : (xs ys : List A) → count p (xs ++ ys) ≡ count p xs + count p ys
  unfolding count
  count-append [] ys = omega arith
  count-append (x ∷ xs) ys = omega (arith, count-append xs ys)

  pub count_le : (xs : List A) → count p xs ≤ length xs
  unfolding count
  count_le [] = omega arith
  count_le (x ∷ xs) = omega (arith, count_le xs, bit_le (p x))

  -- a count is positive where an element passes, and else zero
  pub count_pos : (xs : List A) → 1 ≤ count p xs ↔ ((x : A) × (x ∈ xs) × (p x ≡ true))
  unfolding count
  count_pos [] = (λ h. absurd (omega arith), λ (x, m, t). absurd (Memᴰ.not-nil m))
  count_pos (x ∷ xs) = (
    λ h. ⊎_elim
        (λ t. (x, Memᴰ.head refl, t))
        (λ f. let k = rw f at h in let (y, m, t) = (count_pos xs).0 (omega arith) in (y, Memᴰ.tail m, t))
        (decided (p x)),
    λ (y, m, t). ⊎_elim
        (λ e. let here : p x ≡ true = ap p (sym e) ∙ t in rw here (omega arith))
        (λ k. omega (arith, (count_pos xs).1 (y, k, t)))
        (Memᴰ.cases_cons m),
  )

  pub count_zero : (xs : List A) → count p xs ≡ 0 ↔ ((x : A) → x ∈ xs → p x ≡ false)
  count_zero xs = (
    λ e x m. ⊎_elim (λ t. absurd (omega (arith, (count_pos xs).1 (x, m, t)))) (λ f. f) (decided (p x)),
    λ f. ⊎_elim (λ e. e) (λ k. let (x, m, t) = (count_pos xs).0 k in absurd (clash t (f x m))) (eq-zero-or-pos (count p xs)),
  )

-- two tests that agree on the elements
module _ {ℓ} {A : Type ℓ} (p q : A → Bool) where
  pub all_same : (xs : List A) → ((x : A) → x ∈ xs → p x ≡ q x) → all p xs ≡ all q xs
  unfolding all
  all_same [] f = refl
  all_same (x ∷ xs) f = ap₂ ◌&&◌ (f x (Memᴰ.head refl)) (all_same xs (λ y m. f y (Memᴰ.tail m)))

  pub count_same : (xs : List A) → ((x : A) → x ∈ xs → p x ≡ q x) → count p xs ≡ count q xs
  unfolding count
  count_same [] f = refl
  count_same (x ∷ xs) f = rw (f x (Memᴰ.head refl), count_same xs (λ y m. f y (Memᴰ.tail m)))

-- ---- among and distinct

-- two tests at once
pub all_and {ℓ} : {A : Type ℓ} (p q : A → Bool) (xs : List A) → all (λ (x : A). p x && q x) xs ≡ all p xs && all q xs
all_and {A} p q xs =
    same_test _ _
    (λ h. and_join (all_of p xs (λ x m. and_left (p x) _ (all_at_lem (λ (y : A). p y && q y) h m))) (all_of q xs (λ x m. and_right (p x) _ (all_at_lem (λ (y : A). p y && q y) h m))))
    (λ h. all_of _ xs (λ x m. and_join (all_at_lem p (and_left (all p xs) _ h) m) (all_at_lem q (and_right (all p xs) _ h) m)))

pub among_at : (x : ℕ) (ys : List ℕ) → among x ys ≡ true → x ∈ ys
unfolding among
among_at x [] h = absurd (clash h refl)
among_at x (y ∷ ys) h =
    ⊎_elim (λ e. Memᴰ.head (eqb-true x y e)) (λ k. Memᴰ.tail (among_at x ys k)) (or_cases (eqb x y) (among x ys) h)

pub among_of : {x : ℕ} {ys : List ℕ} → x ∈ ys → among x ys ≡ true
unfolding among
among_of (Memᴰ.head e) = or_left _ _ (eq-eqb _ _ e)
among_of {x} (Memᴰ.tail {x = y} m) = or_right (eqb x y) _ (among_of m)

pub among_iff : (x : ℕ) (ys : List ℕ) → among x ys ≡ true ↔ x ∈ ys
among_iff x ys = (among_at x ys, among_of)

pub among_not : (x : ℕ) (ys : List ℕ) → among x ys ≡ false ↔ (x ∈ ys → ⊥)
among_not x ys = (λ h m. clash (among_of m) h, λ f. ⊎_elim (λ t. absurd (f (among_at x ys t))) (λ h. h) (decided (among x ys)))

pub among-append : (x : ℕ) (ys zs : List ℕ) → among x (ys ++ zs) ≡ among x ys || among x zs
unfolding among
among-append x [] zs = refl
among-append x (y ∷ ys) zs = rw (among-append x ys zs) (or_assoc (eqb x y) (among x ys) (among x zs))

regroup : (a e d b : Bool) → not (a || e) && (d && not b) ≡ not a && d && not (e || b)
regroup true e d b = refl
regroup false true true true = refl
regroup false true true false = refl
regroup false true false b = refl
regroup false false d b = refl

pub distinct_snoc : (xs : List ℕ) (x : ℕ) → distinct (xs ++ (x ∷ [])) ≡ distinct xs && not (among x xs)
unfolding distinct among
distinct_snoc [] x = refl
distinct_snoc (y ∷ xs) x =
    rw (among-append y xs (x ∷ []), or-false, eqb_sym y x, distinct_snoc xs x) (regroup (among y xs) (eqb x y) (distinct xs) (among x xs))

-- no number stands at two places
abbrev pub OnePlaceEach : List ℕ → Type 0
OnePlaceEach xs = (i j : ℕ) → i < length xs → j < length xs → get_or xs i 0 ≡ get_or xs j 0 → i ≡ j

pub distinct_iff : (xs : List ℕ) → distinct xs ≡ true ↔ OnePlaceEach xs
unfolding distinct
distinct_iff [] = (λ h i j l. absurd (omega arith), λ f. refl)
distinct_iff (x ∷ xs) = (
  λ h. ahead
      ((among_not x xs).0 (not-true _ (and_left (not (among x xs)) _ h)))
      ((distinct_iff xs).0 (and_right (not (among x xs)) _ h)),
  λ f. and_join
      (ap not ((among_not x xs).1 (new f)))
      ((distinct_iff xs).1 (λ i j l k e. suc_inj (f (suc i) (suc j) (omega arith) (omega arith) e))),
)
  where
    ahead : (x ∈ xs → ⊥) → OnePlaceEach xs → OnePlaceEach (x ∷ xs)
    ahead a f zero zero l k e = refl
    ahead a f zero (suc j) l k e = absurd (a (rw e (at_place 0 xs j (omega arith))))
    ahead a f (suc i) zero l k e = absurd (a (rw (← e) (at_place 0 xs i (omega arith))))
    ahead a f (suc i) (suc j) l k e = ap suc (f i j (omega arith) (omega arith) e)

    new : OnePlaceEach (x ∷ xs) → x ∈ xs → ⊥
    new f m =
        let (i, l, e) = place_of 0 m in
        let z : 0 ≡ suc i = f 0 (suc i) (omega arith) (omega arith) (sym e) in
        omega arith

-- ---- an optional number

pub distinct_cons : (x : ℕ) (xs : List ℕ) → distinct (x ∷ xs) ≡ true ↔ ((among x xs ≡ false) × (distinct xs ≡ true))
unfolding distinct
distinct_cons x xs =
    (λ h. (not-true _ (and_left (not (among x xs)) _ h), and_right (not (among x xs)) _ h), λ (a, d). and_join (ap not a) d)

pub is_iff : (k : ℕ) (o : Option ℕ) → is k o ≡ true ↔ (o ≡ Some k)
unfolding is
is_iff k None = (λ h. absurd (clash h refl), λ e. cc)
is_iff k (Some n) = (λ h. ap Some (sym (eqb-true k n h)), λ e. eq-eqb k n (cc))

pub same_numbers_iff : (xs ys : List ℕ) → same_numbers xs ys ≡ true ↔ (xs ≡ ys)
unfolding same_numbers
same_numbers_iff [] [] = (λ h. refl, λ e. refl)
same_numbers_iff [] (y ∷ ys) = (λ h. absurd (clash h refl), λ e. absurd (nil≢cons e))
same_numbers_iff (x ∷ xs) [] = (λ h. absurd (clash h refl), λ e. absurd (nil≢cons (sym e)))
same_numbers_iff (x ∷ xs) (y ∷ ys) = (
  λ h. ap₂ ◌∷◌ (eqb-true x y (and_left (eqb x y) _ h)) ((same_numbers_iff xs ys).0 (and_right (eqb x y) _ h)),
  λ e. and_join (eq-eqb x y (cc)) ((same_numbers_iff xs ys).1 (cc)),
)
