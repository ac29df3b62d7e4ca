-- What a comparison answers. Assumes nothing.
use Prim.Native.Nat.{ℕ}
use mathlib.Core.Path.{◌≡◌, sym, ap₂, ◌∙◌}
use mathlib.Core.Bool.{Bool, true, false}
use lib.Dec.{eqb}
use borrow.Author.Tests.{eq-eqb, ne_eqb}

pub told_same : (a b : ℕ) → a ≡ b → true ≡ eqb a b
told_same a b e = sym (eq-eqb a b e)

pub told-other : (a b : ℕ) → (a ≡ b → ⊥) → false ≡ eqb a b
told-other a b f = sym (ne_eqb a b f)

-- two numbers are compared, each of which is what it should be
pub compared : (r : Bool) (a b x y : ℕ) → r ≡ eqb a b → a ≡ x → b ≡ y → r ≡ eqb x y
compared r a b x y e p q = e ∙ ap₂ eqb p q
