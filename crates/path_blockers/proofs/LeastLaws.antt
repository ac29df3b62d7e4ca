-- The least number that passes: one of one test, of two, of a list turn by turn. Assumes nothing.
use Prim.Native.Nat.{ℕ, ◌+◌, ◌≤◌, ◌<◌, min}
use mathlib.Core.Path.{◌≡◌, refl, sym, ap, ◌∙◌}
use mathlib.Core.Bool.{Bool, true, false, not, cond, ◌&&◌, ◌||◌}
use mathlib.Core.List.{List, [], ◌∷◌}
use Rattle.std.specs.Prelude.{None, Some}
use native.Mathlib.Numerals.{add-one}
use native.Mathlib.Omega.{arith}
use lib.ListN.{length, get_or, take}
use lib.Dec.{eqb, ltb, leb}
use lib.Seq.{take-suc, take_all}
use borrow.Author.Tests.{eqb-true, eq-eqb, ne_eqb, ltb-true, lt-ltb, le-ltb, le-leb, lt-leb, leb-true}
use Rattle.basics.specs.Tests.{all_below, among, first_from}
use Rattle.basics.proofs.Bools.{either, by, clash, and_left, and_right, and_join, and_false, or_left, or_right, or_neither}
use Rattle.basics.proofs.Lists.{among-append}
use Rattle.basics.proofs.Below.{all_below_of, all_below_fails, first-is, first_never}
use Rattle.path_blockers.specs.Seeking.{Least, nearer}

module _ (p : ℕ → Bool) (i n : ℕ) where
  -- there is one such number
  pub least_one : (x y : ℕ) → Least p i n x → Least p i n y → x ≡ y
  least_one x y a b = by x y (λ l. absurd (apart x y a b l)) (λ k. by y x (λ l. absurd (apart y x b a l)) (λ m. omega arith))
    where
      apart : (x y : ℕ) → Least p i n x → Least p i n y → x < y → ⊥
      apart x y a b l =
          let less : x < n = omega (arith, b.upto) in
          clash (a.here less) (b.before x (a.begun less) l)

  pub least-same : (q : ℕ → Bool) → ((y : ℕ) → y < n → p y ≡ q y) → (x : ℕ) → Least p i n x → Least q i n x
  least-same q f x a = record {
    upto = a.upto;
    begun = a.begun;
    here = λ l. sym (f x l) ∙ a.here l;
    before = λ y k l. sym (f y (omega (arith, a.upto))) ∙ a.before y k l;
  }

  -- nothing passes
  pub least_none : ((y : ℕ) → y < n → p y ≡ false) → Least p i n n
  least_none f = record {
    upto = omega arith;
    begun = λ l. absurd (omega arith);
    here = λ l. absurd (omega arith);
    before = λ y k l. f y l;
  }

  -- of two tests
  pub least_or : (q : ℕ → Bool) (x y : ℕ) → Least p i n x → Least q i n y → Least (λ (o : ℕ). p o || q o) i n (min x y)
  least_or q x y a b = by x y
      (λ l. let e : min x y ≡ x = omega arith in rw e (record {
        upto = a.upto;
        begun = a.begun;
        here = λ k. or_left _ _ (a.here k);
        before = λ z k m. or_neither (a.before z k m) (b.before z k (omega arith));
      }))
      (λ l. let e : min x y ≡ y = omega arith in rw e (record {
        upto = b.upto;
        begun = b.begun;
        here = λ k. or_right (p y) _ (b.here k);
        before = λ z k m. or_neither (a.before z k (omega arith)) (b.before z k m);
      }))

-- from the first number on: the first that passes, and whether none does
module _ (p : ℕ → Bool) (n x : ℕ) (a : Least p 0 n x) where
  pub least_first : x < n → first_from p 0 n ≡ Some x
  least_first l = first-is p 0 n x (omega arith) (omega arith) (a.here l) (λ m k j. a.before m k j)

  pub least_never : n ≤ x → first_from p 0 n ≡ None
  least_never l = first_never p 0 n (λ m k j. a.before m k (omega arith))

  pub least-all : n ≤ x → all_below n (λ (o : ℕ). not (p o)) ≡ true
  least-all l = all_below_of _ n (λ o k. ap not (a.before o (omega arith) (omega arith)))

  pub least_some : x < n → all_below n (λ (o : ℕ). not (p o)) ≡ false
  least_some l = all_below_fails _ n x l (ap not (a.here l))

-- ---- of a list, turn by turn

among-take : (o j : ℕ) (xs : List ℕ) → j < length xs → among o (take (j + 1) xs) ≡ among o (take j xs) || eqb o (get_or xs j 0)
unfolding among
among-take o j xs l = rw (add-one j, take-suc xs j 0 l, among-append o (take j xs) (get_or xs j 0 ∷ [])) (ap (λ (b : Bool). among o (take j xs) || b) (one (eqb o (get_or xs j 0))))
  where
    one : (b : Bool) → b || among o [] ≡ b
    one true = refl
    one false = refl

module _ (q : ℕ → Bool) (i n : ℕ) (xs : List ℕ) where
  -- among the first j of the list
  abbrev pub seen : ℕ → ℕ → Bool
  seen j o = among o (take j xs) && q o

  pub least_start : Least (seen 0) i n n
  unfolding among
  least_start = least_none (seen 0) i n (λ y l. refl)

  pub least_end : (j best : ℕ) → length xs ≤ j → Least (seen j) i n best → Least (λ (o : ℕ). among o xs && q o) i n best
  least_end j best l a = least-same (seen j) i n _ (λ y k. rw (take_all j xs l)) best a

  module _ (j best : ℕ) (l : j < length xs) (a : Least (seen j) i n best) where
    abbrev x : ℕ
    x = get_or xs j 0

    more : (o : ℕ) → seen (j + 1) o ≡ (among o (take j xs) || eqb o x) && q o
    more o = ap (λ (b : Bool). b && q o) (among-take o j xs l)

    other : (y : ℕ) → eqb y x ≡ false → seen j y ≡ false → seen (j + 1) y ≡ false
    other y e f = more y ∙ rw e (ap (λ (b : Bool). b && q y) (or_false (among y (take j xs))) ∙ f)
      where
        or_false : (b : Bool) → b || false ≡ b
        or_false true = refl
        or_false false = refl

    taken : q x && (leb i x && ltb x best) ≡ true → Least (seen (j + 1)) i n x
    taken t =
        let rest = and_right (q x) _ t in
        let low : i ≤ x = leb-true i x (and_left (leb i x) _ rest) in
        let high : x < best = ltb-true x best (and_right (leb i x) _ rest) in
        record {
          upto = omega (arith, a.upto);
          begun = λ k. low;
          here = λ k. more x ∙ and_join (or_right (among x (take j xs)) _ (eq-eqb x x refl)) (and_left (q x) _ t);
          before = λ y k m. other y (ne_eqb y x (λ e. absurd (omega arith))) (a.before y k (omega arith));
        }

    passed : q x && (leb i x && ltb x best) ≡ false → Least (seen (j + 1)) i n best
    passed f = record {
      upto = a.upto;
      begun = a.begun;
      here = λ k. more best ∙ and_join (or_left _ _ (and_left (among best (take j xs)) _ (a.here k))) (and_right (among best (take j xs)) _ (a.here k));
      before = λ y k m. either (eqb y x) (λ e. same y (eqb-true y x e) k m) (λ e. other y e (a.before y k m));
    }
      where
        same : (y : ℕ) → y ≡ x → i ≤ y → y < best → seen (j + 1) y ≡ false
        same y e k m =
            either (q y)
            (λ t. let t' : q x ≡ true = ap q (sym e) ∙ t in absurd (clash (and_join t' (and_join (le-leb i x (omega arith)) (lt-ltb x best (omega arith)))) f))
            (λ z. ap (λ (b : Bool). among y (take (j + 1) xs) && b) z ∙ and_false (among y (take (j + 1) xs)))

    pub least_turn : (b : ℕ) → b ≡ nearer q i x best → Least (seen (j + 1)) i n b
    unfolding nearer
    least_turn b e =
        either (q x && (leb i x && ltb x best))
        (λ t. rw (e, t) (taken t))
        (λ f. rw (e, f) (passed f))

-- ---- what the better of two is, as the code finds it

module _ (p : ℕ → Bool) (i x best : ℕ) where
  pub too_low : x < i → best ≡ nearer p i x best
  unfolding nearer
  too_low l = rw (lt-leb i x l) (sym (ap (λ (b : Bool). cond b x best) (and_false (p x))))

  pub no_better : best ≤ x → best ≡ nearer p i x best
  unfolding nearer
  no_better l = rw (le-ltb x best l) (sym (ap (λ (b : Bool). cond b x best) (ap (λ (b : Bool). p x && b) (and_false (leb i x)) ∙ and_false (p x))))

  pub not_sought : p x ≡ false → best ≡ nearer p i x best
  unfolding nearer
  not_sought f = rw f

  pub is_better : i ≤ x → x < best → p x ≡ true → x ≡ nearer p i x best
  unfolding nearer
  is_better a b t = rw (t, le-leb i x a, lt-ltb x best b)
