-- What stands where numbers were stored one after another. Assumes nothing.
use Prim.Native.Nat.{ℕ, zero, suc, ◌+◌, ◌*◌, ◌<◌}
use mathlib.Core.Path.{◌≡◌, refl, sym, ap, ap₂, ◌∙◌}
use mathlib.Core.Bool.{Bool, true, false, ◌&&◌}
use mathlib.Core.List.{List}
use Rattle.std.specs.Prelude.{Option, None, Some}
use native.Mathlib.Numerals.{add-one}
use native.Mathlib.Omega.{arith}
use lib.Dec.{eqb}
use lib.ListN.{length, get_or, set, length-set}
use lib.Seq.{get_or-set_same, get_or-set_other}
use borrow.Author.Tests.{eqb-true, eqb-false, eq-eqb, ne_eqb}
use Rattle.basics.proofs.Bools.{either, same_test, and_left, and_right, and_join}
use Rattle.assignment_tables.proofs.CellLaws.{cell_apart}
use Rattle.listing_shape.specs.FileBoard.{last_below}
use Rattle.listing_tables.specs.Filled.{scattered}

-- ---- the last that passes

pub last_same : (n : ℕ) (p q : ℕ → Bool) → ((i : ℕ) → i < n → p i ≡ q i) → last_below n p ≡ last_below n q
unfolding last_below
last_same zero p q h = refl
last_same (suc n) p q h = rw (h n (omega arith), last_same n p q (λ i l. h i (omega arith)))

pub last_none : (n : ℕ) (p : ℕ → Bool) → ((i : ℕ) → i < n → p i ≡ false) → last_below n p ≡ None
unfolding last_below
last_none zero p h = refl
last_none (suc n) p h = rw (h n (omega arith), last_none n p (λ i l. h i (omega arith)))

pub last_below_lem : (n : ℕ) (p : ℕ → Bool) (i : ℕ) → last_below n p ≡ Some i → (i < n) × (p i ≡ true)
unfolding last_below
last_below_lem zero p i h = let z : ◌≡◌ {A = ℕ} 0 1 = cc in absurd (omega arith)
last_below_lem (suc n) p i h =
    either (p n)
    (λ t. let q : Some n ≡ Some i = rw t at h in let e : n ≡ i = cc in (omega arith, ap p (sym e) ∙ t))
    (λ f. let (l, t) = last_below_lem n p i (rw f at h) in (omega arith, t))

-- ---- stores

abbrev pub pick : (ℕ → ℕ) → ℕ → Option ℕ → ℕ
pick what d None = d
pick what d (Some i) = what i

module _ (place what : ℕ → ℕ) (s : List ℕ) where
  pub scatter_more : (n : ℕ) → set (scattered place what n s) (place n) (what n) ≡ scattered place what (n + 1) s
  unfolding scattered
  scatter_more n = rw (add-one n)

  pub scatter_none : s ≡ scattered place what 0 s
  unfolding scattered
  scatter_none = refl

  pub scatter_length : (n : ℕ) → length (scattered place what n s) ≡ length s
  unfolding scattered
  scatter_length zero = refl
  scatter_length (suc n) = length-set (scattered place what n s) (place n) (what n) ∙ scatter_length n

  pub scatter_at : (n k : ℕ) → ((i : ℕ) → i < n → place i < length s) → get_or (scattered place what n s) k 0 ≡ pick what (get_or s k 0) (last_below n (λ (i : ℕ). eqb (place i) k))
  unfolding scattered last_below
  scatter_at zero k h = refl
  scatter_at (suc n) k h =
      either (eqb (place n) k)
      (λ t. let e = eqb-true (place n) k t in
      let l : place n < length (scattered place what n s) = rw (scatter_length n) (h n (omega arith)) in
      rw t (ap (λ (j : ℕ). get_or (set (scattered place what n s) (place n) (what n)) j 0) (sym e) ∙ get_or-set_same (scattered place what n s) (place n) (what n) 0 l))
      (λ f. rw f
      (get_or-set_other (scattered place what n s) (place n) k (what n) 0 (λ e. eqb-false (place n) k f (sym e)) ∙ scatter_at n k (λ i l. h i (omega arith))))

  -- nothing was stored there
  pub scatter_past : (n k : ℕ) → ((i : ℕ) → i < n → place i < length s) → ((i : ℕ) → i < n → place i ≡ k → ⊥) → get_or (scattered place what n s) k 0 ≡ get_or s k 0
  scatter_past n k h f =
      scatter_at n k h ∙ ap (pick what (get_or s k 0)) (last_none n (λ (i : ℕ). eqb (place i) k) (λ i l. ne_eqb (place i) k (f i l)))

-- ---- the place of a row and a value is its own

pub one_place : (values start row value r v : ℕ) → value < values → v < values
    → eqb (start + (row * values + value)) (start + (r * values + v)) ≡ eqb row r && eqb value v
one_place values start row value r v a b =
    same_test _ _
    (λ t.
    let whole = eqb-true (start + (row * values + value)) (start + (r * values + v)) t in
    let e : row * values + value ≡ r * values + v = omega arith in
    let (f, g) = cell_apart values row value r v a b e in
    and_join (eq-eqb row r f) (eq-eqb value v g))
    (λ t.
    let e = eqb-true row r (and_left (eqb row r) _ t) in
    let f = eqb-true value v (and_right (eqb row r) _ t) in
    eq-eqb _ _ (ap₂ (λ (x y : ℕ). start + (x * values + y)) e f))
