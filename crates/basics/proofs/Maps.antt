-- What stands at a place of a list, of a part of it, and of a function over it. Assumes nothing.
use Prim.Native.Nat.{ℕ, zero, suc, ◌+◌, ◌-◌, ◌<◌}
use mathlib.Core.Path.{◌≡◌, refl, sym, ap, ap₂, ◌∙◌}
use mathlib.Core.Bool.{not}
use mathlib.Core.List.Memᴰ
use mathlib.Core.List.Memᴰ.{head as here}
use mathlib.Core.List.Memᴰ.{tail as there}
use mathlib.Core.List.{List, [], ◌∷◌, ◌++◌, map}
use native.Mathlib.Nat.{suc-sub-suc, sub-zero, add-zero}
use native.Mathlib.Numerals.{add-one}
use native.Mathlib.Omega.{arith}
use lib.Dec.{eqb}
use lib.ListN.{length, get_or, set, take, drop, replicate}
use lib.Seq.{take-nil, sets, take-suc-set}
use Rattle.basics.specs.Tests.{all, among}
use Rattle.basics.specs.Sorting.{Apart}
use Rattle.basics.proofs.Bools.{either, eqb_sym}
use Rattle.basics.proofs.Lists.{◌∈◌}

-- at a place of the list it does not matter what stands behind its end
pub get_d_any : {A : Type 0} (d e : A) (xs : List A) (k : ℕ) → k < length xs → get_or xs k d ≡ get_or xs k e
get_d_any d e [] k h = absurd (omega arith)
get_d_any d e (x ∷ xs) zero h = refl
get_d_any d e (x ∷ xs) (suc k) h = get_d_any d e xs k (omega arith)

-- a list of one element holds it everywhere
pub get_d_replicate_any : {A : Type 0} (k r : ℕ) (a : A) → get_or (replicate k a) r a ≡ a
get_d_replicate_any zero r a = refl
get_d_replicate_any (suc k) zero a = refl
get_d_replicate_any (suc k) (suc r) a = get_d_replicate_any k r a

pub drop-take : {A : Type 0} (i k : ℕ) (xs : List A) → drop i (take k xs) ≡ take (k - i) (drop i xs)
drop-take zero k xs = rw (sub-zero k)
drop-take (suc i) zero xs = let e : 0 - suc i ≡ 0 = omega arith in rw e
drop-take (suc i) (suc k) [] = sym (take-nil (suc k - suc i))
drop-take (suc i) (suc k) (x ∷ xs) = rw suc-sub-suc (drop-take i k xs)

module _ {A B : Type 0} (f : A → B) where
  pub get_d_map_lt : (d : A) (e : B) (xs : List A) (k : ℕ) → k < length xs → get_or (map f xs) k e ≡ f (get_or xs k d)
  get_d_map_lt d e [] k h = absurd (omega arith)
  get_d_map_lt d e (x ∷ xs) zero h = refl
  get_d_map_lt d e (x ∷ xs) (suc k) h = get_d_map_lt d e xs k (omega arith)

  pub map_same : (g : A → B) (xs : List A) → ((x : A) → x ∈ xs → f x ≡ g x) → map f xs ≡ map g xs
  map_same g [] h = refl
  map_same g (x ∷ xs) h = ap₂ ◌∷◌ (h x (here refl)) (map_same g xs (λ y m. h y (there m)))

  pub map_apart : (xs : List A) → Apart xs → ((x y : A) → x ∈ xs → y ∈ xs → f x ≡ f y → x ≡ y) → Apart (map f xs)
  map_apart [] a h = tt
  map_apart (x ∷ xs) a h = (
    λ m. let (y, k, e) = Memᴰ.of_map f xs m in a.0 (Memᴰ.cast (h x y (here refl) (there k) (sym e)) k),
    map_apart xs a.1 (λ y z k l. h y z (there k) (there l)),
  )

pub map-append : {A B : Type 0} (f : A → B) (xs ys : List A) → map f (xs ++ ys) ≡ map f xs ++ map f ys
map-append f [] ys = refl
map-append f (x ∷ xs) ys = ap (λ (l : List _). f x ∷ l) (map-append f xs ys)

-- a number that no image is
pub among-map : {A : Type 0} (f : A → ℕ) (k : ℕ) (xs : List A) → all (λ (x : A). not (eqb (f x) k)) xs ≡ not (among k (map f xs))
unfolding all among
among-map f k [] = refl
among-map f k (x ∷ xs) = rw (eqb_sym (f x) k) (either (eqb k (f x)) (λ t. rw t) (λ n. rw n (among-map f k xs)))

-- two stores of several elements, the second right behind the first
pub sets_append : {A : Type 0} (s : List A) (a : ℕ) (xs ys : List A) → sets s a (xs ++ ys) ≡ sets (sets s a xs) (a + length xs) ys
sets_append s a [] ys = rw (add-zero a)
sets_append s a (x ∷ xs) ys =
    let e : suc a + length xs ≡ a + suc (length xs) = omega arith in
    sets_append (set s a x) (suc a) xs ys ∙ rw e

-- the front with one cell more, just written
pub take-written : (s : List ℕ) (n x : ℕ) → n < length s → take (n + 1) (set s n x) ≡ take n s ++ (x ∷ [])
take-written s n x l = ap (λ (k : ℕ). take k (set s n x)) (add-one n) ∙ take-suc-set s n x l
