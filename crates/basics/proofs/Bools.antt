-- What `true` and `false` say of a test made of tests. `&&` and `||` go by cases on their first operand, so a use writes that one. Assumes nothing.
use Prim.Native.Nat.{ℕ, ◌≤◌, ◌<◌}
use mathlib.Core.Path.{◌≡◌, refl, sym, ◌∙◌}
use mathlib.Core.Logic.{◌↔◌, ◌⊎◌, inl, inr}
use mathlib.Core.Bool.{Bool, true, false, not, ◌&&◌, ◌||◌, and-eq-true_iff}
use native.Mathlib.Decide.{dec_lt}
use native.Mathlib.Omega.{arith}
use lib.Dec.{eqb}
use borrow.Author.Tests.{eqb-true, eq-eqb}

-- a test is true or false, and not both
pub decided : (b : Bool) → (b ≡ true) ⊎ (b ≡ false)
decided true = inl refl
decided false = inr refl

pub not_not : (b : Bool) → not (not b) ≡ b
not_not true = refl
not_not false = refl

-- a proof by what a test says; it stands first, so that each case knows its hypothesis
pub either : {P : Type 0} (b : Bool) → (b ≡ true → P) → (b ≡ false → P) → P
either true f g = f refl
either false f g = g refl

pub clash : {b : Bool} → b ≡ true → b ≡ false → ⊥
clash p q = let z : ◌≡◌ {A = ℕ} 0 1 = cc in omega arith

-- two tests that are true together are one
pub same_test : (a b : Bool) → (a ≡ true → b ≡ true) → (b ≡ true → a ≡ true) → a ≡ b
same_test true b f g = sym (f refl)
same_test false true f g = g refl
same_test false false f g = refl

-- a call's answer b is x, and a branch says what b is: so is x
pub came : (x b t : Bool) → b ≡ x → b ≡ t → x ≡ t
came x b t p q = sym p ∙ q

pub and_left : (a b : Bool) → a && b ≡ true → a ≡ true
and_left a b h = ((and-eq-true_iff a b).0 h).0

pub and_right : (a b : Bool) → a && b ≡ true → b ≡ true
and_right a b h = ((and-eq-true_iff a b).0 h).1

pub and_join : {a b : Bool} → a ≡ true → b ≡ true → a && b ≡ true
and_join {a} {b} p q = (and-eq-true_iff a b).1 (p, q)

pub and_false : (a : Bool) → a && false ≡ false
and_false true = refl
and_false false = refl

pub and_assoc : (a b c : Bool) → a && (b && c) ≡ a && b && c
and_assoc true b c = refl
and_assoc false b c = refl

pub and_swap : (a b c : Bool) → a && (b && c) ≡ b && (a && c)
and_swap true b c = refl
and_swap false true c = refl
and_swap false false c = refl

pub nand : (a b : Bool) → not (a && b) ≡ true ↔ (a ≡ true → b ≡ true → ⊥)
nand true true = (λ h p q. clash h refl, λ h. absurd (h refl refl))
nand true false = (λ h p q. clash q refl, λ h. refl)
nand false b = (λ h p q. clash p refl, λ h. refl)

pub or_left : (a b : Bool) → a ≡ true → a || b ≡ true
or_left true b h = refl
or_left false b h = absurd (clash h refl)

pub or_right : (a b : Bool) → b ≡ true → a || b ≡ true
or_right true b h = refl
or_right false b h = h

pub or_cases : (a b : Bool) → a || b ≡ true → (a ≡ true) ⊎ (b ≡ true)
or_cases true b h = inl refl
or_cases false b h = inr h

pub or_none : (a b : Bool) → a || b ≡ false → (a ≡ false) × (b ≡ false)
or_none true b h = absurd (clash refl h)
or_none false b h = (refl, h)

pub or_neither : {a b : Bool} → a ≡ false → b ≡ false → a || b ≡ false
or_neither p q = rw (p, q)

pub or_assoc : (a b c : Bool) → a || (b || c) ≡ a || b || c
or_assoc true b c = refl
or_assoc false b c = refl

pub or_swap : (a b c : Bool) → a || (b || c) ≡ b || (a || c)
or_swap false b c = refl
or_swap true true c = refl
or_swap true false c = refl

-- an implication between tests
pub implies : (a b : Bool) → not a || b ≡ true ↔ (a ≡ true → b ≡ true)
implies true b = (λ h p. h, λ h. h refl)
implies false b = (λ h p. absurd (clash p refl), λ h. refl)

pub eqb_sym : (a b : ℕ) → eqb a b ≡ eqb b a
eqb_sym a b = same_test _ _ (λ h. eq-eqb b a (sym (eqb-true a b h))) (λ h. eq-eqb a b (sym (eqb-true b a h)))

-- a proof by which of two numbers is below; they stand first, so that each case knows its hypothesis
pub by : {A : Type 0} (a b : ℕ) → (a < b → A) → (b ≤ a → A) → A
by a b f g = elim (dec_lt a b) [ yes h ↦ f h | no h ↦ g (omega arith) ]
