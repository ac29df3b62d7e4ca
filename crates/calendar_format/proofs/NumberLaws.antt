-- A number of k digits is read exactly where it stands. Assumes nothing.
use Prim.Native.Nat.{ℕ, zero, suc, ◌+◌, ◌*◌, ◌-◌, ◌/◌, ◌%◌, ◌<◌}
use mathlib.Core.Path.{◌≡◌, refl, sym, ap, ap₂, ◌∙◌}
use mathlib.Core.Logic.{◌↔◌}
use mathlib.Core.Bool.{true, ◌&&◌}
use mathlib.Core.List.{List, [], ◌∷◌, ◌++◌}
use Rattle.std.specs.Prelude.{Option, None, Some}
use native.Mathlib.Omega.{arith}
use lib.Dec.{eqb, leb}
use lib.ListN.{length, take, drop, take-append-drop, length-append}
use lib.Seq.{take_at, drop_at}
use borrow.Author.Tests.{eqb-true, eq-eqb, leb-true, le-leb}
use Rattle.basics.specs.Tests.{all}
use Rattle.basics.proofs.Bools.{either, and_left, and_right, and_join}
use Rattle.basics.proofs.Lists.{all_append}
use Rattle.calendar_format.specs.Texts.{padded, tens, then, digit_on, value_from, value_of, number_at}
use Rattle.calendar_format.proofs.AfterLaws.{then_form, then_some, some_pair}
use Rattle.calendar_format.proofs.RowLaws.{figure}

pub padded_long : (k n : ℕ) → length (padded k n) ≡ k
unfolding padded
padded_long zero n = refl
padded_long (suc k) n = length-append (padded k (n / 10)) ((n % 10 + 48) ∷ []) ∙ omega (arith, padded_long k (n / 10))

pub padded_figures : (k n : ℕ) → all figure (padded k n) ≡ true
unfolding padded all
padded_figures zero n = refl
padded_figures (suc k) n = all_append figure (padded k (n / 10)) ((n % 10 + 48) ∷ []) ∙ and_join (padded_figures k (n / 10)) (and_join (le-leb 48 (n % 10 + 48) (omega arith)) refl)

pub then_assoc : {A B C : Type 0} (x : Option A) (f : A → Option B) (g : B → Option C) → then (then x f) g ≡ then x (λ a. then (f a) g)
unfolding then
then_assoc None f g = refl
then_assoc (Some a) f g = refl

pub then_ap : {A B : Type 0} (x : Option A) (f g : A → Option B) → ((a : A) → f a ≡ g a) → then x f ≡ then x g
unfolding then
then_ap None f g h = refl
then_ap (Some a) f g h = h a

value_nil : (v : ℕ) → value_from v [] ≡ Some v
unfolding value_from
value_nil v = refl

value_cons : (v b : ℕ) (l : List ℕ) → value_from v (b ∷ l) ≡ then (digit_on v b) (λ w. value_from w l)
unfolding value_from
value_cons v b l = refl

value_one : (x : Option ℕ) → then x (λ w. value_from w []) ≡ x
unfolding then value_from
value_one None = refl
value_one (Some w) = refl

value_snoc : (v b : ℕ) (l : List ℕ) → value_from v (l ++ (b ∷ [])) ≡ then (value_from v l) (λ w. digit_on w b)
value_snoc v b [] = value_cons v b [] ∙ value_one (digit_on v b) ∙ sym (then_some (value_from v []) (λ w. digit_on w b) v (value_nil v))
value_snoc v b (a ∷ l) =
    value_cons v a (l ++ (b ∷ []))
    ∙ then_ap (digit_on v a) (λ w. value_from w (l ++ (b ∷ []))) (λ w. then (value_from w l) (λ u. digit_on u b)) (λ w. value_snoc w b l)
    ∙ sym (then_assoc (digit_on v a) (λ w. value_from w l) (λ u. digit_on u b))
    ∙ ap (λ (x : Option ℕ). then x (λ u. digit_on u b)) (sym (value_cons v a l))

digit_form : (v b n : ℕ) → digit_on v b ≡ Some n → (n / 10 ≡ v) × (n % 10 + 48 ≡ b)
unfolding digit_on
digit_form v b n h =
    either (leb 48 b && leb b 57)
    (λ t. let q : Some (v * 10 + (b - 48)) ≡ Some n = rw t at h in
    let e : v * 10 + (b - 48) ≡ n = cc in
    let lo = leb-true 48 b (and_left (leb 48 b) _ t) in
    let hi = leb-true b 57 (and_right (leb 48 b) _ t) in
    (omega arith, omega arith))
    (λ f. let q : None ≡ Some n = rw f at h in let z : ◌≡◌ {A = ℕ} 0 1 = cc in absurd (omega arith))

digit-same : (n : ℕ) → digit_on (n / 10) (n % 10 + 48) ≡ Some n
unfolding digit_on
digit-same n =
    let e : n / 10 * 10 + (n % 10 + 48 - 48) ≡ n = omega arith in
    rw (le-leb 48 (n % 10 + 48) (omega arith), le-leb (n % 10 + 48) 57 (omega arith)) (ap Some e)

pub tens-more : (k : ℕ) → tens (suc k) ≡ tens k * 10
unfolding tens
tens-more k = refl

pub tens_none : tens 0 ≡ 1
unfolding tens
tens_none = refl

pub hundred : tens 2 ≡ 100
unfolding tens
hundred = refl

pub ten_thousand : tens 4 ≡ 10000
unfolding tens
ten_thousand = refl

value-padded : (k n : ℕ) → n < tens k → value_from 0 (padded k n) ≡ Some n
unfolding padded
value-padded zero n h = let e : 0 ≡ n = omega (arith, tens_none) in value_nil 0 ∙ ap Some e
value-padded (suc k) n h =
    value_snoc 0 (n % 10 + 48) (padded k (n / 10))
    ∙ then_some (value_from 0 (padded k (n / 10))) (λ w. digit_on w (n % 10 + 48)) (n / 10) (value-padded k (n / 10) (omega (arith, tens-more k)))
    ∙ digit-same n

-- the last octet apart
snoc : (k : ℕ) (t : List ℕ) → length t ≡ suc k → (u : List ℕ) × (b : ℕ) × (t ≡ u ++ (b ∷ [])) × (length u ≡ k)
snoc k [] h = absurd (omega arith)
snoc zero (b ∷ []) h = ([], b, refl, refl)
snoc zero (b ∷ c ∷ t) h = absurd (omega arith)
snoc (suc k) (a ∷ t) h =
    let (u, b, e, l) = snoc k t (omega arith) in
    (a ∷ u, b, ap (λ (x : List ℕ). a ∷ x) e, omega (arith, l))

value_form : (k : ℕ) (t : List ℕ) (n : ℕ) → length t ≡ k → value_from 0 t ≡ Some n → (n < tens k) × (t ≡ padded k n)
unfolding padded
value_form zero [] n l h = let q : Some 0 ≡ Some n = sym (value_nil 0) ∙ h in let e : 0 ≡ n = cc in (omega (arith, tens_none), refl)
value_form zero (b ∷ t) n l h = absurd (omega arith)
value_form (suc k) t n l h =
    let (u, b, e, m) = snoc k t l in
    let (w, ew, hw) = then_form (value_from 0 u) (λ w. digit_on w b) n (sym (value_snoc 0 b u) ∙ ap (value_from 0) (sym e) ∙ h) in
    let (p, q) = digit_form w b n hw in
    let (i, f) = value_form k u w m ew in
    (omega (arith, tens-more k, i, p), e ∙ ap₂ (λ (x : List ℕ) (y : ℕ). x ++ (y ∷ [])) (f ∙ ap (padded k) (sym p)) (sym q))

value_of_form : (k : ℕ) (t : List ℕ) (m : ℕ) → value_of k t ≡ Some m → (m < tens k) × (t ≡ padded k m)
unfolding value_of
value_of_form k t m h =
    either (eqb (length t) k)
    (λ y. let g : value_from 0 t ≡ Some m = rw y at h in value_form k t m (eqb-true (length t) k y) g)
    (λ y. let g : None ≡ Some m = rw y at h in let z : ◌≡◌ {A = ℕ} 0 1 = cc in absurd (omega arith))

pub number_form : (k : ℕ) (l : List ℕ) (n : ℕ) (t : List ℕ) → number_at k l ≡ Some (n, t) → (n < tens k) × (l ≡ padded k n ++ t)
unfolding number_at
number_form k l n t h =
    let (m, em, hm) = then_form (value_of k (take k l)) _ (n, t) h in
    joined m em (some_pair m n (drop k l) t hm)
  where
    joined : (m : ℕ) → value_of k (take k l) ≡ Some m → ◌≡◌ {A = ℕ × List ℕ} (m, drop k l) (n, t) → (n < tens k) × (l ≡ padded k n ++ t)
    joined m em q =
        let qn : m ≡ n = ap (λ (w : ℕ × List ℕ). w.0) q in
        let qt : drop k l ≡ t = ap (λ (w : ℕ × List ℕ). w.1) q in
        let (i, f) = value_of_form k (take k l) m em in
        (rw qn at i, sym (take-append-drop k l) ∙ ap₂ ◌++◌ (f ∙ ap (padded k) qn) qt)

pub number_same : (k n : ℕ) (t : List ℕ) → n < tens k → number_at k (padded k n ++ t) ≡ Some (n, t)
unfolding number_at value_of
number_same k n t h =
    let a = take_at (padded k n) t k (padded_long k n) in
    let b = drop_at (padded k n) t k (padded_long k n) in
    let v : value_of k (take k (padded k n ++ t)) ≡ Some n = rw (a, eq-eqb (length (padded k n)) k (padded_long k n)) (value-padded k n h) in
    then_some (value_of k (take k (padded k n ++ t))) _ n v ∙ ap (λ (x : List ℕ). Some (n, x)) b

pub number_iff : (k : ℕ) (l : List ℕ) (n : ℕ) (t : List ℕ) → number_at k l ≡ Some (n, t) ↔ ((n < tens k) × (l ≡ padded k n ++ t))
number_iff k l n t = (number_form k l n t, λ (i, e). ap (number_at k) e ∙ number_same k n t i)
