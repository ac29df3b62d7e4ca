-- Signed numbers of holders: what the code computes is the sum that the definition names. Assumes nothing.
use Prim.Native.Nat.{ℕ, zero, suc, ◌+◌, ◌-◌, ◌*◌, ◌≤◌, ◌<◌, ◌^◌}
use mathlib.Core.Path.{◌≡◌, refl, sym, ap, subst, ◌∙◌}
use mathlib.Core.Bool.{Bool, true, false, not, cond, ◌&&◌}
use native.Mathlib.Omega.{arith}
use native.Mathlib.Nat.{lt_of_le_of_lt, lt_trans, le_of_lt}
use lib.Dec.{ltb, leb, leb-zero, lit<}
use lib.IntN.{ℤ, pos, negsuc, neg_ℤ, sub_ℕ, ◌+ℤ◌, ◌-ℤ◌, pos-+ℤ-pos, +ℤ_assoc, +ℤ-neg_ℤ_cancel}
use lib.Signed.{le_z, mag}
use mir.Syntax.{w64}
use mir.Val.{SFits, to_z, of_z}
use mir.ValLaws.{to_z_pos}
use mir.Facts.{to_z-of_z}
use Rattle.key_places.specs.Places.{fits_places}

-- the test that the code makes
pub fits-places : (z : ℤ) → le_z (pos 0) z && le_z z (pos 1) ≡ fits_places z
fits-places (pos n) = ap (λ (b : Bool). b && leb n 1) (leb-zero n)
fits-places (negsuc n) = refl

-- a difference of two naturals is at most as large as they are
pub mag_sub : (a b m : ℕ) → a ≤ m → b ≤ m → mag (sub_ℕ a b) ≤ m
mag_sub a b m p q = go (ltb a b)
  where
    go : (t : Bool) → mag (cond t (negsuc (b - suc a)) (pos (a - b))) ≤ m
    go true = omega arith
    go false = omega arith

pub mag_diff : (a b m : ℕ) → a ≤ m → b ≤ m → mag (pos a -ℤ pos b) ≤ m
mag_diff a zero m p q = omega arith
mag_diff a (suc b) m p q = mag_sub a (suc b) m p q

pub mag_add : (h : ℕ) (z : ℤ) (m : ℕ) → h ≤ m → mag z < m → mag (pos h +ℤ z) ≤ m + m
mag_add h (pos n) m p q = omega arith
mag_add h (negsuc n) m p q = mag_sub h (suc n) (m + m) (omega arith) (omega arith)

pub small : (n : ℕ) → n < 2 ^ 60 → to_z w64 n ≡ pos n
small n p = to_z_pos w64 n (lt_trans p (lit< tt))

pub diff_fits : (a b : ℕ) → a < 2 ^ 60 → b < 2 ^ 60 → SFits w64 (pos a -ℤ pos b)
diff_fits a b p q = record { sfits = lt_of_le_of_lt (mag_diff a b (2 ^ 60) (le_of_lt p) (le_of_lt q)) (lit< tt) }

module _ (a b : ℕ) (p : a < 2 ^ 60) (q : b < 2 ^ 60) where
  pub net_fits : SFits w64 (to_z w64 a -ℤ to_z w64 b)
  net_fits = rw (small a p, small b q) (diff_fits a b p q)

  pub net_is : to_z w64 (of_z w64 (to_z w64 a -ℤ to_z w64 b)) ≡ pos a -ℤ pos b
  net_is = rw (small a p, small b q) (to_z-of_z (diff_fits a b p q))

  module _ (h : ℕ) (r : h < 2 ^ 60) (z : ℤ) (e : z ≡ pos a -ℤ pos b) where
    sum_fits : SFits w64 (pos h +ℤ z)
    sum_fits =
        record { sfits = lt_of_le_of_lt (mag_add h z (2 ^ 61) (le_of_lt (lt_trans r (lit< tt))) (subst (λ (x : ℤ). mag x < 2 ^ 61) (sym e) (lt_of_le_of_lt (mag_diff a b (2 ^ 60) (le_of_lt p) (le_of_lt q)) (lit< tt)))) (lit< tt) }

    z-back : to_z w64 (of_z w64 z) ≡ z
    z-back = to_z-of_z (subst (λ (x : ℤ). SFits w64 x) (sym e) (diff_fits a b p q))

    pub after-fits : SFits w64 (to_z w64 h +ℤ to_z w64 (of_z w64 z))
    after-fits = rw (small h r, z-back) sum_fits

    pub after_is : le_z (pos 0) (to_z w64 (of_z w64 (to_z w64 h +ℤ to_z w64 (of_z w64 z)))) && le_z (to_z w64 (of_z w64 (to_z w64 h +ℤ to_z w64 (of_z w64 z)))) (pos 1) ≡ fits_places (pos h +ℤ (pos a -ℤ pos b))
    after_is =
        rw (small h r, z-back, to_z-of_z sum_fits)
        (fits-places (pos h +ℤ z) ∙ ap (λ (x : ℤ). fits_places (pos h +ℤ x)) e)
