-- The positions of a walk: which tries they are, that they rise, and how many there are at most. Assumes nothing.
use Prim.Native.Nat.{ℕ, zero, suc, ◌+◌, ◌-◌, ◌*◌, min, ◌≤◌, ◌<◌}
use mathlib.Core.Path.{◌≡◌, refl, ap}
use mathlib.Core.Logic.{◌↔◌, ⊎_elim}
use mathlib.Core.Bool.{Bool, true, false}
use mathlib.Core.List.Memᴰ
use mathlib.Core.List.Memᴰ.{append_cases}
use mathlib.Core.List.Memᴰ.{eq_of_singleton as of_one}
use mathlib.Core.List.Memᴰ.{head as here}
use mathlib.Core.List.Memᴰ.{not-nil}
use mathlib.Core.List.Memᴰ.{tail as there}
use mathlib.Core.List.{List, [], ◌∷◌, ◌++◌}
use native.Mathlib.Nat.{suc-mul, sub-zero, mul-le-mul}
use native.Mathlib.Omega.{arith}
use lib.ListN.{length, length-append}
use lib.Dec.{ltb}
use borrow.Author.Tests.{lt-ltb, le-ltb}
use Rattle.basics.specs.Tests.{all}
use Rattle.basics.specs.Sorting.{Apart, then_by, rising}
use Rattle.basics.proofs.Bools.{by}
use Rattle.basics.proofs.Lists.{◌∈◌, all_at_lem, all_of}
use Rattle.basics.proofs.Sorting.{rising_cons, rises_once}
use Rattle.window_kinds.specs.declared.CycleWindowCursor.{CycleWindowCursor}
use Rattle.window_kinds.specs.Kinds.{cursor, Kind, Walkable, joined_from, tries_from, lengths_from, starts_from, positions, Position, earlier}

-- ---- what numbers give, one behind the other

module _ {A : Type 0} (f : ℕ → List A) where
  joined_at : (k i : ℕ) {x : A} → x ∈ joined_from f i k → (j : ℕ) × (i ≤ j) × (j < i + k) × (x ∈ f j)
  unfolding joined_from
  joined_at zero i m = absurd (not-nil m)
  joined_at (suc k) i m =
      ⊎_elim
      (λ q. (i, omega arith, omega arith, q))
      (λ q. let (j, a, b, r) = joined_at k (suc i) q in (j, omega arith, omega arith, r))
      (append_cases (f i) m)

  joined_of : (k i j : ℕ) {x : A} → i ≤ j → j < i + k → x ∈ f j → x ∈ joined_from f i k
  unfolding joined_from
  joined_of zero i j a b m = absurd (omega arith)
  joined_of (suc k) i j {x} a b m =
      by i j
      (λ l. Memᴰ.append_right (f i) (joined_of k (suc i) j (omega arith) (omega arith) m))
      (λ l. let e : j ≡ i = omega arith in Memᴰ.append_left (joined_from f (suc i) k) (rw e at m))

  -- at most m of each number
  joined_length : (k i m : ℕ) → ((j : ℕ) → i ≤ j → j < i + k → length (f j) ≤ m) → length (joined_from f i k) ≤ k * m
  unfolding joined_from
  joined_length zero i m h = omega arith
  joined_length (suc k) i m h =
      let later = joined_length k (suc i) m (λ j a b. h j (omega arith) (omega arith)) in
      omega (arith, length-append (f i) (joined_from f (suc i) k), h i (omega arith) (omega arith), later, suc-mul k m)

rising-join : {A : Type 0} (before : A → A → Bool) (xs ys : List A) → rising before xs ≡ true → rising before ys ≡ true
    → ((x y : A) → x ∈ xs → y ∈ ys → before x y ≡ true) → rising before (xs ++ ys) ≡ true
rising-join before [] ys p q f = q
rising-join before (x ∷ xs) ys p q f =
    let s = (rising_cons before x xs).0 p in
    (rising_cons before x (xs ++ ys)).1 (
      all_of (before x) (xs ++ ys) (λ z m. ⊎_elim (λ r. all_at_lem (before x) s.0 r) (λ r. f x z (here refl) r) (append_cases xs m)),
      rising-join before xs ys s.1 q (λ a b m r. f a b (there m) r),
    )

joined-rising : {A : Type 0} (before : A → A → Bool) (f : ℕ → List A)
    → ((j : ℕ) → rising before (f j) ≡ true)
    → ((i j : ℕ) → i < j → (x y : A) → x ∈ f i → y ∈ f j → before x y ≡ true)
    → (k i : ℕ) → rising before (joined_from f i k) ≡ true
unfolding joined_from rising
joined-rising before f each across zero i = refl
joined-rising before f each across (suc k) i =
    rising-join before (f i) (joined_from f (suc i) k) (each i) (joined-rising before f each across k (suc i))
    (λ x y m q. let (j, a, b, r) = joined_at f k (suc i) q in across i j (omega arith) x y m r)

-- ---- which tries they are

module _ (K : Kind) (n g : ℕ) where
  -- a try at a start, with the numbers that name it
  pub try_at : (s l : ℕ) {x : CycleWindowCursor} → x ∈ tries_from K g s l 0 → (v : ℕ) × (v < K.tries l) × (x ≡ cursor s l v g)
  unfolding tries_from
  try_at s l m = let (v, a, b, r) = joined_at _ (K.tries l - 0) 0 m in (v, omega arith, of_one r)

  pub length_at : (s : ℕ) {x : CycleWindowCursor} → x ∈ lengths_from K n g s K.least
      → (l : ℕ) × (K.least ≤ l) × (l ≤ min g (n - s)) × (x ∈ tries_from K g s l 0)
  unfolding lengths_from
  length_at s m = let (l, a, b, r) = joined_at _ (suc (min g (n - s)) - K.least) K.least m in (l, a, omega arith, r)

  pub start_at : {x : CycleWindowCursor} → x ∈ positions K n g → (s : ℕ) × (s < n) × (x ∈ lengths_from K n g s K.least)
  unfolding starts_from
  start_at m = let (s, a, b, r) = joined_at _ (n - 0) 0 m in (s, omega arith, r)

  position_told : (x : CycleWindowCursor) → x ∈ positions K n g → Position K n g x
  position_told x m =
      let (s, ls, in-s) = start_at m in
      let (l, three, longest, in-l) = length_at s in-s in
      let (v, two, e) = try_at s l in-l in
      rw e (record { same = refl; least = three; fits = omega arith; inside = omega arith; tried = two })

  position_of : Walkable K → (x : CycleWindowCursor) → Position K n g x → x ∈ positions K n g
  unfolding starts_from lengths_from tries_from
  position_of u x p =
      let e : x ≡ cursor x.start x.length x.variant g = ap (cursor x.start x.length x.variant) p.same in
      let three = p.least in
      let one = u.some_row in
      let fits = p.fits in
      let inside = p.inside in
      joined_of (λ (t : ℕ). lengths_from K n g t K.least) (n - 0) 0 x.start (omega arith) (omega arith)
      (joined_of (λ (l : ℕ). tries_from K g x.start l 0) (suc (min g (n - x.start)) - K.least) K.least x.length three (omega arith)
      (joined_of (λ (v : ℕ). cursor x.start x.length v g ∷ []) (K.tries x.length - 0) 0 x.variant (omega arith) (omega (arith, p.tried)) (here e)))

  pub position_iff : Walkable K → (x : CycleWindowCursor) → x ∈ positions K n g ↔ Position K n g x
  position_iff u x = (position_told x, position_of u x)

-- ---- that they rise

-- the first number decides, or the first is the same and what follows decides
module _ (first second : CycleWindowCursor → CycleWindowCursor → Bool) (x y : CycleWindowCursor) where
  pub first_decides : first x y ≡ true → then_by first second x y ≡ true
  unfolding then_by
  first_decides t = rw t

  pub second_decides : first x y ≡ false → first y x ≡ false → second x y ≡ true → then_by first second x y ≡ true
  unfolding then_by
  second_decides a b t = rw (a, b) t

abbrev start_less : CycleWindowCursor → CycleWindowCursor → Bool
start_less a b = ltb a.start b.start

abbrev length_less : CycleWindowCursor → CycleWindowCursor → Bool
length_less a b = ltb a.length b.length

abbrev variant_less : CycleWindowCursor → CycleWindowCursor → Bool
variant_less a b = ltb a.variant b.variant

module _ (x y : CycleWindowCursor) where
  by_start : x.start < y.start → earlier x y ≡ true
  by_start l = first_decides start_less (then_by length_less variant_less) x y (lt-ltb _ _ l)

  level : (a b : ℕ) → a ≡ b → (ltb a b ≡ false) × (ltb b a ≡ false)
  level a b e = (le-ltb a b (omega arith), le-ltb b a (omega arith))

  by_length : x.start ≡ y.start → x.length < y.length → earlier x y ≡ true
  by_length e l =
      let (same, back) = level x.start y.start e in
      second_decides start_less (then_by length_less variant_less) x y same back (first_decides length_less variant_less x y (lt-ltb _ _ l))

  by_variant : x.start ≡ y.start → x.length ≡ y.length → x.variant < y.variant → earlier x y ≡ true
  by_variant e f l =
      let (same, back) = level x.start y.start e in
      let (also, again) = level x.length y.length f in
      second_decides start_less (then_by length_less variant_less) x y same back (second_decides length_less variant_less x y also again (lt-ltb _ _ l))

alone_rises : (x : CycleWindowCursor) → rising earlier (x ∷ []) ≡ true
unfolding rising all
alone_rises x = refl

never_itself : (x : CycleWindowCursor) → earlier x x ≡ false
unfolding then_by
never_itself x = rw (le-ltb x.start x.start (omega arith), le-ltb x.length x.length (omega arith), le-ltb x.variant x.variant (omega arith))

module _ (K : Kind) (n g : ℕ) where
  tries_rise : (s l : ℕ) → rising earlier (tries_from K g s l 0) ≡ true
  unfolding tries_from
  tries_rise s l =
      joined-rising earlier (λ (v : ℕ). cursor s l v g ∷ []) (λ v. alone_rises (cursor s l v g))
      (λ v w less x y a b. rw (of_one a, of_one b) (by_variant (cursor s l v g) (cursor s l w g) refl refl less)) (K.tries l - 0) 0

  lengths_rise : (s : ℕ) → rising earlier (lengths_from K n g s K.least) ≡ true
  unfolding lengths_from
  lengths_rise s =
      joined-rising earlier (λ (l : ℕ). tries_from K g s l 0) (tries_rise s)
      (λ l k less x y a b.
      let (v, two, e) = try_at K n g s l a in
      let (w, also, f) = try_at K n g s k b in
      rw (e, f) (by_length (cursor s l v g) (cursor s k w g) refl less))
      (suc (min g (n - s)) - K.least) K.least

  pub positions_rise : rising earlier (positions K n g) ≡ true
  unfolding starts_from
  positions_rise =
      joined-rising earlier (λ (s : ℕ). lengths_from K n g s K.least) lengths_rise
      (λ s t less x y a b.
      let (l, three, most, in-l) = length_at K n g s a in
      let (v, two, e) = try_at K n g s l in-l in
      let (k, third, more, in-k) = length_at K n g t b in
      let (w, also, f) = try_at K n g t k in-k in
      rw (e, f) (by_start (cursor s l v g) (cursor t k w g) less))
      (n - 0) 0

  pub positions-once : Apart (positions K n g)
  positions-once = rises_once earlier never_itself (positions K n g) positions_rise

  -- ---- how many there are at most

  tries_few : (s l : ℕ) → length (tries_from K g s l 0) ≤ K.tries l
  unfolding tries_from
  tries_few s l = omega (arith, joined_length (λ (v : ℕ). cursor s l v g ∷ []) (K.tries l - 0) 0 1 (λ v a b. omega arith))

  module _ (most : ℕ) (few : (l : ℕ) → l ≤ g → K.tries l ≤ most) where
    lengths_few : (s : ℕ) → length (lengths_from K n g s K.least) ≤ (suc g - K.least) * most
    unfolding lengths_from
    lengths_few s =
        let at_most = joined_length (λ (l : ℕ). tries_from K g s l 0) (suc (min g (n - s)) - K.least) K.least most (λ l a b. omega (arith, tries_few s l, few l (omega arith))) in
        omega (arith, at_most, mul-le-mul {n₁ = suc (min g (n - s)) - K.least} {m₁ = most} {n₂ = suc g - K.least} {m₂ = most} (omega arith) (omega arith))

    pub positions_few : length (positions K n g) ≤ n * ((suc g - K.least) * most)
    unfolding starts_from
    positions_few =
        let e : (n - 0) * ((suc g - K.least) * most) ≡ n * ((suc g - K.least) * most) = ap (λ (k : ℕ). k * ((suc g - K.least) * most)) (sub-zero n) in
        omega (arith, joined_length (λ (s : ℕ). lengths_from K n g s K.least) (n - 0) 0 ((suc g - K.least) * most) (λ s a b. lengths_few s))
