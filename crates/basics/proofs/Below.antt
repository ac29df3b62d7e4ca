-- What the tests, counts and lists of the numbers below a bound say, each law once. Assumes nothing.
use Prim.Native.Nat.{ℕ, zero, suc, ◌+◌, ◌≤◌, ◌<◌}
use mathlib.Core.Path.{◌≡◌, refl, sym, ap, ap₂, ◌∙◌}
use mathlib.Core.Logic.{◌↔◌, ◌⊎◌, inl, inr, ⊎_elim}
use mathlib.Core.Bool.{Bool, true, false, not, cond, ◌&&◌, and-true}
use mathlib.Core.List.Memᴰ
use mathlib.Core.List.{List, [], ◌∷◌, ◌++◌, append-nil}
use Rattle.std.specs.Prelude.{None, Some}
use Rattle.std.proofs.lemmas.Option.{none-some, same_Some}
use native.Mathlib.Nat.{eq-zero-or-pos, eq-or-lt_of_le, le_of_suc-le-suc, lt_irrefl}
use native.Mathlib.Decide.{ℕ_discrete}
use native.Mathlib.Omega.{arith}
use lib.Dec.{ltb, eqb}
use lib.ListN.{length, get_or, set, length-append, length-set, get_or-append}
use lib.Seq.{get_or_at, ext_get_or, get_or-set_same, get_or-set_other}
use borrow.Author.Tests.{ltb-true, lt-ltb, eqb-true, eq-eqb, ne_eqb, not-true, not-false}
use Rattle.basics.specs.Tests.{all, all_below, bit, count, count_below, all_of_below, list_below, first_from, among, distinct}
use Rattle.basics.specs.Sorting.{rising}
use Rattle.basics.proofs.Bools.{decided, clash, and_left, and_right, and_join, and_false, and_assoc, and_swap}
use Rattle.basics.proofs.Lists.{◌∈◌, bit_le, all_of, all_snoc, among_not, distinct_snoc}

-- a number below suc n is n, or below n
last_or_less : {i n : ℕ} → i < suc n → (i ≡ n) ⊎ (i < n)
last_or_less l = eq-or-lt_of_le (le_of_suc-le-suc l)

-- ---- every number below n

module _ (p : ℕ → Bool) where
  pub all_below_at : (n : ℕ) → all_below n p ≡ true → (i : ℕ) → i < n → p i ≡ true
  unfolding all_below
  all_below_at zero h i l = absurd (omega arith)
  all_below_at (suc n) h i l =
      ⊎_elim (λ e. ap p e ∙ and_right (all_below n p) _ h) (all_below_at n (and_left (all_below n p) _ h) i) (last_or_less l)

  pub all_below_of : (n : ℕ) → ((i : ℕ) → i < n → p i ≡ true) → all_below n p ≡ true
  unfolding all_below
  all_below_of zero f = refl
  all_below_of (suc n) f = and_join (all_below_of n (λ i l. f i (omega arith))) (f n (omega arith))

  pub all_below_iff : (n : ℕ) → all_below n p ≡ true ↔ ((i : ℕ) → i < n → p i ≡ true)
  all_below_iff n = (all_below_at n, all_below_of n)

  -- where one fails, not all pass
  pub all_below_fails : (n i : ℕ) → i < n → p i ≡ false → all_below n p ≡ false
  all_below_fails n i l f = ⊎_elim (λ t. absurd (clash (all_below_at n t i l) f)) (λ e. e) (decided (all_below n p))

  -- where not all pass, one fails
  pub all_below_not : (n : ℕ) → all_below n p ≡ false → (i : ℕ) × (i < n) × (p i ≡ false)
  unfolding all_below
  all_below_not zero h = absurd (clash refl h)
  all_below_not (suc n) h =
      ⊎_elim
      (λ t. (n, omega arith, rw t at h))
      (λ f. let (i, l, e) = all_below_not n f in (i, omega arith, e))
      (decided (all_below n p))

  pub all_below-first : (n : ℕ) → all_below (suc n) p ≡ p 0 && all_below n (λ (i : ℕ). p (suc i))
  unfolding all_below
  all_below-first zero = sym (and-true (p 0))
  all_below-first (suc n) =
      ap (λ (b : Bool). b && p (suc n)) (all_below-first n) ∙ sym (and_assoc (p 0) (all_below n (λ (i : ℕ). p (suc i))) (p (suc n)))

pub all_below-same : (p q : ℕ → Bool) (n : ℕ) → ((i : ℕ) → i < n → p i ≡ q i) → all_below n p ≡ all_below n q
unfolding all_below
all_below-same p q zero f = refl
all_below-same p q (suc n) f = ap₂ ◌&&◌ (all_below-same p q n (λ i l. f i (omega arith))) (f n (omega arith))

-- ---- how many numbers below n

module _ (p : ℕ → Bool) where
  pub count_below_le : (n : ℕ) → count_below n p ≤ n
  unfolding count_below
  count_below_le zero = omega arith
  count_below_le (suc n) = omega (arith, count_below_le n, bit_le (p n))

  -- a count is positive where a number passes, and else zero
  pub count_below_pos : (n : ℕ) → 1 ≤ count_below n p ↔ ((i : ℕ) × (i < n) × (p i ≡ true))
  unfolding count_below
  count_below_pos zero = (λ h. absurd (omega arith), λ (i, l, t). absurd (omega arith))
  count_below_pos (suc n) = (
    λ h. ⊎_elim
        (λ t. (n, omega arith, t))
        (λ f. let k = rw f at h in let (i, l, t) = (count_below_pos n).0 (omega arith) in (i, omega arith, t))
        (decided (p n)),
    λ (i, l, t). ⊎_elim
        (λ e. let here : p n ≡ true = ap p (sym e) ∙ t in rw here (omega arith))
        (λ k. omega (arith, (count_below_pos n).1 (i, k, t)))
        (last_or_less l),
  )

  pub count_below_zero : (n : ℕ) → count_below n p ≡ 0 ↔ ((i : ℕ) → i < n → p i ≡ false)
  count_below_zero n = (
    λ e i l. ⊎_elim (λ t. absurd (omega (arith, (count_below_pos n).1 (i, l, t)))) (λ f. f) (decided (p i)),
    λ f. ⊎_elim (λ e. e) (λ k. let (i, l, t) = (count_below_pos n).0 k in absurd (clash t (f i l))) (eq-zero-or-pos (count_below n p)),
  )

  pub count_below-first : (n : ℕ) → count_below (suc n) p ≡ bit (p 0) + count_below n (λ (i : ℕ). p (suc i))
  unfolding count_below
  count_below-first zero = omega arith
  count_below-first (suc n) = omega (arith, count_below-first n)

module _ (p q : ℕ → Bool) where
  -- the counts are equal, or P: where each number passes both tests alike, or P
  pub count_below_else : {P : Type 0} (n : ℕ) → ((i : ℕ) → i < n → (p i ≡ q i) ⊎ P) → (count_below n p ≡ count_below n q) ⊎ P
  unfolding count_below
  count_below_else zero f = inl refl
  count_below_else (suc n) f =
      ⊎_elim
      (λ c. ⊎_elim (λ b. inl (ap₂ (λ (x : ℕ) (y : Bool). x + bit y) c b)) inr (f n (omega arith)))
      inr
      (count_below_else n (λ i l. f i (omega arith)))

  pub count_below-same : (n : ℕ) → ((i : ℕ) → i < n → p i ≡ q i) → count_below n p ≡ count_below n q
  count_below-same n f = ⊎_elim {B = ⊥} (λ c. c) absurd (count_below_else n (λ i l. inl (f i l)))

  -- two tests that agree but at i: the counts differ by what they say there
  pub count_below_change : (n i : ℕ) → i < n → ((j : ℕ) → j < n → (j ≡ i → ⊥) → p j ≡ q j)
      → count_below n q + bit (p i) ≡ count_below n p + bit (q i)
  unfolding count_below
  count_below_change zero i l f = absurd (omega arith)
  count_below_change (suc n) i l f =
      ⊎_elim
      (λ e. rw e (omega (arith, count_below-same n (λ j k. f j (omega arith) (λ z. omega arith)))))
      (λ k. omega (arith, count_below_change n i k (λ j m. f j (omega arith)), ap bit (f n (omega arith) (λ z. omega arith))))
      (last_or_less l)

module _ (p : ℕ → Bool) where
  -- the test that i fails, and that the others pass as before
  abbrev but : ℕ → ℕ → Bool
  but i j = p j && not (eqb j i)

  count-but : (n i : ℕ) → i < n → p i ≡ true → count_below n p ≡ suc (count_below n (but i))
  count-but n i l t =
      let here : but i i ≡ false = rw (t, eq-eqb i i refl) in
      let change = count_below_change p (but i) n i l (λ j k z. rw (ne_eqb j i z) (sym (and-true (p j)))) in
      omega (arith, rw (here, t) at change)

  alone : (n i : ℕ) → ((j : ℕ) → j < n → p j ≡ true → i ≡ j) → count_below n (but i) ≡ 0
  alone n i f =
      (count_below_zero (but i) n).1
      (λ j l. ⊎_elim (λ t. rw (eq-eqb j i (sym (f j l t))) (and_false (p j))) (λ t. rw t) (decided (p j)))

  -- at most one number passes
  pub count_below_one : (n : ℕ) → count_below n p ≤ 1 ↔ ((i j : ℕ) → i < n → j < n → p i ≡ true → p j ≡ true → i ≡ j)
  count_below_one n = (
    λ h i j l m s t.
        let other = (count_below_zero (but i) n).0 (omega (arith, count-but n i l s)) j m in
        sym (eqb-true j i (not-false _ (rw t at other))),
    λ f. ⊎_elim
        (λ e. omega arith)
        (λ k. let (i, l, s) = (count_below_pos p n).0 k in omega (arith, count-but n i l s, alone n i (λ j m t. f i j l m s t)))
        (eq-zero-or-pos (count_below n p)),
  )

-- ---- a list and the numbers below its length

module _ {ℓ} {A : Type ℓ} (p : A → Bool) (d : A) where
  pub all-below : (xs : List A) → all p xs ≡ all_below (length xs) (λ (i : ℕ). p (get_or xs i d))
  unfolding all all_below
  all-below [] = refl
  all-below (x ∷ xs) = ap (λ (b : Bool). p x && b) (all-below xs) ∙ sym (all_below-first (λ (i : ℕ). p (get_or (x ∷ xs) i d)) (length xs))

  pub count-below : (xs : List A) → count p xs ≡ count_below (length xs) (λ (i : ℕ). p (get_or xs i d))
  unfolding count count_below
  count-below [] = refl
  count-below (x ∷ xs) = omega (arith, count-below xs, count_below-first (λ (i : ℕ). p (get_or (x ∷ xs) i d)) (length xs))

-- ---- a list of distinct numbers below n

module _ (n : ℕ) where
  pub count_below-among : (xs : List ℕ) → distinct xs ≡ true → all (λ (x : ℕ). ltb x n) xs ≡ true
      → count_below n (λ (i : ℕ). among i xs) ≡ length xs
  unfolding distinct all among
  count_below-among [] d b = (count_below_zero (λ (i : ℕ). among i []) n).1 (λ i l. refl)
  count_below-among (x ∷ xs) d b =
      let new : among x xs ≡ false = not-true _ (and_left (not (among x xs)) _ d) in
      let less : x < n = ltb-true x n (and_left (ltb x n) _ b) in
      let change = count_below_change (λ (i : ℕ). among i xs) (λ (i : ℕ). among i (x ∷ xs)) n x less (λ j l z. rw (ne_eqb j x z)) in
      let rest = count_below-among xs (and_right (not (among x xs)) _ d) (and_right (ltb x n) _ b) in
      omega (arith, rw (new, eq-eqb x x refl) at change)

  -- there are at most n of them
  pub pigeon : (xs : List ℕ) → distinct xs ≡ true → all (λ (x : ℕ). ltb x n) xs ≡ true → length xs ≤ n
  pigeon xs d b = omega (arith, count_below-among xs d b, count_below_le (λ (i : ℕ). among i xs) n)

-- ---- the list of the numbers below n that pass

shuffle : (a b c d : Bool) → a && b && (c && d) ≡ a && c && (b && d)
shuffle true b c d = and_swap b c d
shuffle false b c d = refl

rising_snoc : {A : Type 0} (before : A → A → Bool) (xs : List A) (x : A)
    → rising before (xs ++ (x ∷ [])) ≡ rising before xs && all (λ (y : A). before y x) xs
unfolding rising all
rising_snoc before [] x = refl
rising_snoc {A} before (y ∷ xs) x =
    ap₂ ◌&&◌ (all_snoc (before y) xs x) (rising_snoc before xs x)
    ∙ shuffle (all (before y) xs) (before y x) (rising before xs) (all (λ (z : A). before z x) xs)

module _ (p : ℕ → Bool) where
  pub all_of_below_none : all_of_below 0 p ≡ []
  unfolding all_of_below
  all_of_below_none = refl

  pub all_of_below-yes : (n : ℕ) → p n ≡ true → all_of_below (suc n) p ≡ all_of_below n p ++ (n ∷ [])
  unfolding all_of_below
  all_of_below-yes n t = rw t

  pub all_of_below_no : (n : ℕ) → p n ≡ false → all_of_below (suc n) p ≡ all_of_below n p
  unfolding all_of_below
  all_of_below_no n f = rw f (append-nil (all_of_below n p))

  pub all_of_below_iff : (n x : ℕ) → x ∈ all_of_below n p ↔ ((x < n) × (p x ≡ true))
  all_of_below_iff zero x = rw all_of_below_none (λ m. absurd (Memᴰ.not-nil m), λ h. absurd (omega arith))
  all_of_below_iff (suc n) x =
      ⊎_elim
      (λ t. rw (all_of_below-yes n t) (
        λ m. ⊎_elim
            (λ k. let (l, s) = (all_of_below_iff n x).0 k in (omega arith, s))
            (λ k. let e = Memᴰ.eq_of_singleton k in (omega arith, ap p e ∙ t))
            (Memᴰ.append_cases (all_of_below n p) m),
        λ (l, s). ⊎_elim
            (λ e. Memᴰ.append_right (all_of_below n p) (Memᴰ.head e))
            (λ k. Memᴰ.append_left (n ∷ []) ((all_of_below_iff n x).1 (k, s)))
            (last_or_less l),
      ))
      (λ f. rw (all_of_below_no n f) (
        λ m. let (l, s) = (all_of_below_iff n x).0 m in (omega arith, s),
        λ (l, s). ⊎_elim (λ e. absurd (clash (ap p (sym e) ∙ s) f)) (λ k. (all_of_below_iff n x).1 (k, s)) (last_or_less l),
      ))
      (decided (p n))

  pub all_of_below-length : (n : ℕ) → length (all_of_below n p) ≡ count_below n p
  unfolding count_below
  all_of_below-length zero = rw all_of_below_none
  all_of_below-length (suc n) =
      ⊎_elim
      (λ t. rw (all_of_below-yes n t, t) (omega (arith, length-append (all_of_below n p) (n ∷ []), all_of_below-length n)))
      (λ f. rw (all_of_below_no n f, f) (omega (arith, all_of_below-length n)))
      (decided (p n))

  pub all_of_below-rising : (n : ℕ) → rising ltb (all_of_below n p) ≡ true
  unfolding rising
  all_of_below-rising zero = rw all_of_below_none
  all_of_below-rising (suc n) =
      let lower = all_of (λ (x : ℕ). ltb x n) (all_of_below n p) (λ x m. lt-ltb x n ((all_of_below_iff n x).0 m).0) in
      ⊎_elim
      (λ t. rw (all_of_below-yes n t, rising_snoc ltb (all_of_below n p) n) (and_join (all_of_below-rising n) lower))
      (λ f. rw (all_of_below_no n f) (all_of_below-rising n))
      (decided (p n))

  pub all_of_below-distinct : (n : ℕ) → distinct (all_of_below n p) ≡ true
  unfolding distinct
  all_of_below-distinct zero = rw all_of_below_none
  all_of_below-distinct (suc n) =
      let new = (among_not n (all_of_below n p)).1 (λ m. lt_irrefl n ((all_of_below_iff n n).0 m).0) in
      ⊎_elim
      (λ t. rw (all_of_below-yes n t, distinct_snoc (all_of_below n p) n) (and_join (all_of_below-distinct n) (ap not new)))
      (λ f. rw (all_of_below_no n f) (all_of_below-distinct n))
      (decided (p n))

pub all_of_below-same : (p q : ℕ → Bool) (n : ℕ) → ((i : ℕ) → i < n → p i ≡ q i) → all_of_below n p ≡ all_of_below n q
unfolding all_of_below
all_of_below-same p q zero f = refl
all_of_below-same p q (suc n) f =
    ap₂ (λ (xs : List ℕ) (b : Bool). xs ++ cond b (n ∷ []) []) (all_of_below-same p q n (λ i l. f i (omega arith))) (f n (omega arith))

-- ---- the first number that passes, of k from i on

module _ (p : ℕ → Bool) where
  pub first_found : (i k : ℕ) {j : ℕ} → first_from p i k ≡ Some j
      → (i ≤ j) × (j < i + k) × (p j ≡ true) × ((m : ℕ) → i ≤ m → m < j → p m ≡ false)
  unfolding first_from
  first_found i zero h = absurd (none-some _ h)
  first_found i (suc k) {j} h =
      ⊎_elim
      (λ t. let e : i ≡ j = same_Some _ _ (rw t at h) in (omega arith, omega arith, rw e at t, λ m c d. absurd (omega arith)))
      (λ f. let (a, b, t, g) = first_found (suc i) k (rw f at h) in
      (omega arith, omega arith, t, λ m c d. ⊎_elim (λ e. ap p (sym e) ∙ f) (λ l. g m l d) (eq-or-lt_of_le c)))
      (decided (p i))

  pub first_none : (i k : ℕ) → first_from p i k ≡ None → (m : ℕ) → i ≤ m → m < i + k → p m ≡ false
  unfolding first_from
  first_none i zero h m a b = absurd (omega arith)
  first_none i (suc k) h m a b =
      ⊎_elim
      (λ t. absurd (none-some i (sym (rw t at h))))
      (λ f. ⊎_elim (λ e. ap p (sym e) ∙ f) (λ l. first_none (suc i) k (rw f at h) m l (omega arith)) (eq-or-lt_of_le a))
      (decided (p i))

  -- the other way round: a number with what `first_found` says is the first, and with what `first_none` says there is none
  pub first-is : (i k j : ℕ) → i ≤ j → j < i + k → p j ≡ true → ((m : ℕ) → i ≤ m → m < j → p m ≡ false) → first_from p i k ≡ Some j
  unfolding first_from
  first-is i zero j a b t f = absurd (omega arith)
  first-is i (suc k) j a b t f =
      ⊎_elim
      (λ e. let here : p i ≡ true = ap p e ∙ t in rw here (ap Some e))
      (λ l. rw (f i (omega arith) l) (first-is (suc i) k j l (omega arith) t (λ m c d. f m (omega arith) d)))
      (eq-or-lt_of_le a)

  pub first_never : (i k : ℕ) → ((m : ℕ) → i ≤ m → m < i + k → p m ≡ false) → first_from p i k ≡ None
  unfolding first_from
  first_never i zero f = refl
  first_never i (suc k) f = rw (f i (omega arith) (omega arith)) (first_never (suc i) k (λ m a b. f m (omega arith) (omega arith)))

-- where one fails, not all are counted
pub count_below_less : (p : ℕ → Bool) (n i : ℕ) → i < n → p i ≡ false → count_below n p < n
unfolding count_below
count_below_less p zero i h f = absurd (omega arith)
count_below_less p (suc n) i h f =
    ⊎_elim
    (λ e. let g : p n ≡ false = ap p (sym e) ∙ f in rw g (omega (arith, count_below_le p n)))
    (λ l. omega (arith, count_below_less p n i l f, bit_le (p n)))
    (last_or_less h)

-- two tests at once
pub all_below_and : (p q : ℕ → Bool) (n : ℕ) → all_below n (λ (i : ℕ). p i && q i) ≡ all_below n p && all_below n q
unfolding all_below
all_below_and p q zero = refl
all_below_and p q (suc n) = rw (all_below_and p q n) (shuffle (all_below n p) (all_below n q) (p n) (q n))

-- the list of what a function gives
module _ {A : Type 0} where
  pub list_below-length : (n : ℕ) (f : ℕ → A) → length (list_below n f) ≡ n
  unfolding list_below
  list_below-length zero f = refl
  list_below-length (suc n) f = rw (length-append, list_below-length n f) (omega arith)

  pub list_below_at : (n : ℕ) (f : ℕ → A) (i : ℕ) (d : A) → i < n → get_or (list_below n f) i d ≡ f i
  unfolding list_below
  list_below_at zero f i d l = absurd (omega arith)
  list_below_at (suc n) f i d l =
      ⊎_elim
      (λ e. rw e (get_or_at (list_below n f) (f n) [] d n (list_below-length n f)))
      (λ h. get_or-append (list_below n f) (f n ∷ []) d i (rw (list_below-length n f) h) ∙ list_below_at n f i d h)
      (last_or_less l)

  -- a list of n elements is the list of what stands in it
  pub list_below_of : (n : ℕ) (f : ℕ → A) (d : A) (l : List A) → length l ≡ n → ((i : ℕ) → i < n → get_or l i d ≡ f i) → l ≡ list_below n f
  list_below_of n f d l e g =
      ext_get_or d l (list_below n f) (e ∙ sym (list_below-length n f)) (λ i h. let b : i < n = rw e at h in g i b ∙ sym (list_below_at n f i d b))

  pub list_below-same : (n : ℕ) (f g : ℕ → A) → ((i : ℕ) → i < n → f i ≡ g i) → list_below n f ≡ list_below n g
  unfolding list_below
  list_below-same zero f g h = refl
  list_below-same (suc n) f g h = ap₂ (λ (l : List A) (x : A). l ++ (x ∷ [])) (list_below-same n f g (λ i l. h i (omega arith))) (h n (omega arith))

  -- one element changed
  pub list_below-set : (n : ℕ) (f g : ℕ → A) (i : ℕ) → i < n → ((j : ℕ) → j < n → (j ≡ i → ⊥) → g j ≡ f j) → set (list_below n f) i (g i) ≡ list_below n g
  list_below-set n f g i l h =
      list_below_of n g (f 0) (set (list_below n f) i (g i)) (length-set (list_below n f) i (g i) ∙ list_below-length n f)
      (λ j b. elim (ℕ_discrete j i) [
        | yes e ↦ rw e (get_or-set_same (list_below n f) i (g i) (f 0) (rw (list_below-length n f) l))
        | no q ↦ get_or-set_other (list_below n f) i j (g i) (f 0) q ∙ list_below_at n f j (f 0) b ∙ sym (h j b q)
      ])
