-- A fixed text in front, and what is found behind what is found. Assumes nothing.
use Prim.Native.Nat.{ℕ}
use mathlib.Core.Path.{◌≡◌, refl, sym, ap, ap₂, ◌∙◌}
use mathlib.Core.Logic.{◌↔◌}
use mathlib.Core.Bool.{Bool, true, false, cond}
use mathlib.Core.List.{List, [], ◌∷◌, ◌++◌}
use Rattle.std.specs.Prelude.{Option, None, Some}
use native.Mathlib.Omega.{arith}
use lib.Dec.{eqb}
use borrow.Author.Tests.{eqb-true, eq-eqb}
use Rattle.basics.proofs.Bools.{either}
use Rattle.calendar_format.specs.Texts.{after, then}

pub after_form : (p l r : List ℕ) → after p l ≡ Some r → l ≡ p ++ r
unfolding after
after_form [] l r h = cc
after_form (a ∷ p) [] r h = let z : ◌≡◌ {A = ℕ} 0 1 = cc in absurd (omega arith)
after_form (a ∷ p) (b ∷ l) r h =
    either (eqb a b)
    (λ t. ap₂ ◌∷◌ (sym (eqb-true a b t)) (after_form p l r (rw t at h)))
    (λ f. let q : None ≡ Some r = rw f at h in let z : ◌≡◌ {A = ℕ} 0 1 = cc in absurd (omega arith))

pub after_same : (p r : List ℕ) → after p (p ++ r) ≡ Some r
unfolding after
after_same [] r = refl
after_same (a ∷ p) r = rw (eq-eqb a a refl) (after_same p r)

pub after_iff : (p l r : List ℕ) → after p l ≡ Some r ↔ (l ≡ p ++ r)
after_iff p l r = (after_form p l r, λ e. ap (after p) e ∙ after_same p r)

pub then_form : {A B : Type 0} (x : Option A) (f : A → Option B) (y : B) → then x f ≡ Some y → (a : A) × (x ≡ Some a) × (f a ≡ Some y)
unfolding then
then_form None f y h = let z : ◌≡◌ {A = ℕ} 0 1 = cc in absurd (omega arith)
then_form (Some a) f y h = (a, refl, h)

pub then_some : {A B : Type 0} (x : Option A) (f : A → Option B) (a : A) → x ≡ Some a → then x f ≡ f a
unfolding then
then_some x f a e = rw e

pub then_none : {A B : Type 0} (x : Option A) (f : A → Option B) → x ≡ None → then x f ≡ None
unfolding then
then_none x f e = rw e

pub cond_form : {A : Type 0} (b : Bool) (x y : A) → cond b (Some x) None ≡ Some y → (b ≡ true) × (x ≡ y)
cond_form true x y h = (refl, cc)
cond_form false x y h = let z : ◌≡◌ {A = ℕ} 0 1 = cc in absurd (omega arith)

pub some_pair : {A B : Type 0} (a c : A) (b d : B) → ◌≡◌ {A = Option (A × B)} (Some (a, b)) (Some (c, d)) → ◌≡◌ {A = A × B} (a, b) (c, d)
some_pair a c b d h = cc
