-- Which rows the flags make members. Assumes nothing.
use Prim.Native.Nat.{ℕ, ◌<◌, ◌≤◌}
use mathlib.Core.Path.{◌≡◌, refl, ap, ◌∙◌}
use mathlib.Core.Bool.{true, false, not}
use mathlib.Core.List.{List}
use lib.Dec.{eqb}
use lib.ListN.{length, get_or, set, length-set, get_or-eq_default}
use lib.Seq.{get_or-set_same, get_or-set_other}
use borrow.Author.Tests.{eq-eqb, ne_eqb}
use Rattle.basics.proofs.Bools.{clash, by}
use Rattle.basics.proofs.Maps.{get_d_any}
use Rattle.membership.specs.Canonical.{is_member}

module _ (absent : ℕ) (flags : List ℕ) where
  -- a row that the flags have is a member unless its flag is the number that means absent
  pub flag_at : (r : ℕ) → r < length flags → is_member absent flags r ≡ not (eqb (get_or flags r 0) absent)
  unfolding is_member
  flag_at r h = ap (λ (x : ℕ). not (eqb x absent)) (get_d_any absent 0 flags r h)

  -- any other row is none
  pub flag-past : (r : ℕ) → length flags ≤ r → is_member absent flags r ≡ false
  unfolding is_member
  flag-past r h = rw (get_or-eq_default flags absent h, eq-eqb absent absent refl)

  pub flag_none : (r : ℕ) → get_or flags r absent ≡ absent → is_member absent flags r ≡ false
  unfolding is_member
  flag_none r e = rw (e, eq-eqb absent absent refl)

  pub flag_absent : (r : ℕ) → r < length flags → get_or flags r 0 ≡ absent → is_member absent flags r ≡ false
  flag_absent r h e = flag_at r h ∙ rw (e, eq-eqb absent absent refl)

  pub flag_some : (r : ℕ) → r < length flags → (get_or flags r 0 ≡ absent → ⊥) → is_member absent flags r ≡ true
  flag_some r h n = flag_at r h ∙ rw (ne_eqb (get_or flags r 0) absent n)

  pub member_below : (r : ℕ) → is_member absent flags r ≡ true → r < length flags
  member_below r t = by r (length flags) (λ h. h) (λ h. absurd (clash t (flag-past r h)))

  -- the flag of one row, set
  module _ (r x : ℕ) where
    pub flag-other : (k : ℕ) → (k ≡ r → ⊥) → is_member absent (set flags r x) k ≡ is_member absent flags k
    unfolding is_member
    flag-other k n = rw (get_or-set_other flags r k x absent n)

    pub flag-here : r < length flags → is_member absent (set flags r x) r ≡ not (eqb x absent)
    unfolding is_member
    flag-here h = rw (get_or-set_same flags r x absent h)

-- a row whose flag is set to the number that means absent is no member
pub flag-gone : (absent : ℕ) (flags : List ℕ) (r : ℕ) → is_member absent (set flags r absent) r ≡ false
flag-gone absent flags r =
    by r (length flags)
    (λ h. flag_none absent (set flags r absent) r (get_or-set_same flags r absent absent h))
    (λ h. flag-past absent (set flags r absent) r (rw (length-set flags r absent) h))
