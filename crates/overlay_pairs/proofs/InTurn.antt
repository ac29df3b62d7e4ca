-- Two tests, one after the other, and a number that is looked up. Assumes nothing.
use Prim.Native.Nat.{ℕ}
use mathlib.Core.Path.{◌≡◌, refl, sym, ◌∙◌}
use mathlib.Core.Bool.{Bool, true, false, not, ◌&&◌, ◌||◌}
use mathlib.Core.List.{List, [], ◌∷◌}
use Rattle.std.specs.List.{list_any}
use Rattle.basics.proofs.Bools.{eqb_sym}
use lib.Dec.{eqb}
use borrow.Author.Tests.{not-true, not-false}
use Rattle.basics.specs.Tests.{among}

-- ---- two tests, one after the other: the second is made where the first does not decide

pub and_stops : (b x y : Bool) → b ≡ x → not b ≡ true → false ≡ x && y
and_stops b x y e f = rw (← e, not-true b f)

pub and_goes : (b d x y : Bool) → b ≡ x → not b ≡ false → d ≡ y → d ≡ x && y
and_goes b d x y e f g = rw (← e, not-false b f) g

pub or_stops : (b x y : Bool) → b ≡ x → b ≡ true → true ≡ x || y
or_stops b x y e f = rw (← e, f)

pub or_goes : (b d x y : Bool) → b ≡ x → b ≡ false → d ≡ y → d ≡ x || y
or_goes b d x y e f g = rw (← e, f) g

-- the same where the second is made first
pub or_late_stops : (b x y : Bool) → b ≡ y → b ≡ true → true ≡ x || y
or_late_stops b true y e f = refl
or_late_stops b false y e f = sym f ∙ e

pub or_late_goes : (b d x y : Bool) → b ≡ y → b ≡ false → d ≡ x → d ≡ x || y
or_late_goes b d true y e f g = g
or_late_goes b d false y e f g = g ∙ (sym f ∙ e)

pub not_stops : (b x y : Bool) → b ≡ x → not b ≡ true → true ≡ not x || y
not_stops b x y e f = rw (← e, not-true b f)

pub not_goes : (b d x y : Bool) → b ≡ x → not b ≡ false → d ≡ y → d ≡ not x || y
not_goes b d x y e f g = rw (← e, not-false b f) g

-- ---- a number that is looked up

pub listed : (x : ℕ) (xs : List ℕ) → list_any (λ (y : ℕ). eqb y x) xs ≡ among x xs
unfolding among
listed x [] = refl
listed x (y ∷ ys) = rw (eqb_sym y x, listed x ys)
