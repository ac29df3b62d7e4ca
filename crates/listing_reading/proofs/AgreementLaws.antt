-- What the cells of records say together. Assumes nothing.
use Prim.Native.Nat.{ℕ, zero, suc, ◌+◌, ◌*◌, ◌≤◌, ◌<◌}
use mathlib.Core.Path.{◌≡◌, refl, sym, ap, ◌∙◌}
use mathlib.Core.Bool.{Bool, true, false, not, ◌&&◌}
use mathlib.Core.List.{List, [], ◌∷◌, ◌++◌}
use Rattle.std.specs.Prelude.{Option, None, Some, unwrap_or}
use native.Mathlib.Nat.{add-zero}
use native.Mathlib.Omega.{arith}
use lib.Dec.{eqb, leb}
use lib.ListN.{length, get_or, get_or-append}
use lib.Seq.{get_or-append-add}
use borrow.Author.Tests.{eq-eqb, ne_eqb, le-leb, lt-leb}
use Rattle.basics.specs.Tests.{all_below}
use Rattle.basics.proofs.Below.{all_below-same}
use Rattle.outputs.specs.Outputs.{fronted}
use Rattle.listing_format.specs.Format.{Record, clash, record_at, stands, agree}
use Rattle.listing_reading.specs.Cells.{flag, cells_of, written, key_in, record_in}

-- ---- two records

module _ (a b : Record) where
  pub other_row : (a.row ≡ b.row → ⊥) → false ≡ clash a b
  unfolding clash
  other_row f = rw (ne_eqb a.row b.row f)

  module _ (same : a.row ≡ b.row) where
    pub same-value : a.value ≡ b.value → true ≡ clash a b
    unfolding clash
    same-value e = rw (eq-eqb a.row b.row same, eq-eqb a.value b.value e)

    pub other-value : (a.value ≡ b.value → ⊥) → eqb a.now 1 && eqb b.now 1 ≡ clash a b
    unfolding clash
    other-value f = rw (eq-eqb a.row b.row same, ne_eqb a.value b.value f)

-- ---- one record

module _ (at : ℕ → Record) (j : ℕ) where
  pub over_one : 1 < (at j).now → false ≡ stands at j
  unfolding stands
  over_one h = rw (lt-leb (at j).now 1 h)

  pub not_over : (at j).now ≤ 1 → (b : Bool) → b ≡ all_below j (λ (i : ℕ). not (clash (at i) (at j))) → b ≡ stands at j
  unfolding stands
  not_over h b e = rw (le-leb (at j).now 1 h) e

stands_same : (f g : ℕ → Record) (j : ℕ) → ((i : ℕ) → i ≤ j → f i ≡ g i) → stands f j ≡ stands g j
unfolding stands
stands_same f g j h =
    rw (h j (omega arith))
    (ap (λ (b : Bool). leb (g j).now 1 && b) (all_below-same _ _ j (λ i l. ap (λ (r : Record). not (clash r (g j))) (h i (omega arith)))))

-- ---- the records of the cells are those that were written

key_back : (k : Option ℕ) → key_in (flag k) (unwrap_or k 0) ≡ k
key_back None = refl
key_back (Some n) = refl

cell : (rs : List Record) (tail : List ℕ) (i k : ℕ) → i < length rs → k < 7 → get_or (written rs ++ tail) (i * 7 + k) 0 ≡ get_or (cells_of (record_at rs i)) k 0
unfolding written
cell [] tail i k l h = absurd (omega arith)
cell (r ∷ rs) tail zero k l h =
    let e : 0 * 7 + k ≡ k = omega arith in
    ap (λ (n : ℕ). get_or (written (r ∷ rs) ++ tail) n 0) e ∙ get_or-append (cells_of r) (written rs ++ tail) 0 k h
cell (r ∷ rs) tail (suc i) k l h =
    let e : suc i * 7 + k ≡ 7 + (i * 7 + k) = omega arith in
    ap (λ (n : ℕ). get_or (written (r ∷ rs) ++ tail) n 0) e
    ∙ get_or-append-add (cells_of r) (written rs ++ tail) (i * 7 + k) 0
    ∙ cell rs tail i k (omega arith) h

pub record_back : (rs : List Record) (tail : List ℕ) (i : ℕ) → i < length rs → record_in (written rs ++ tail) i ≡ record_at rs i
record_back rs tail i l =
    let at = cell rs tail i in
    let first : get_or (written rs ++ tail) (i * 7) 0 ≡ (record_at rs i).row = ap (λ (k : ℕ). get_or (written rs ++ tail) k 0) (sym (add-zero (i * 7))) ∙ at 0 l (omega arith) in
    rw (
      first,
      at 1 l (omega arith),
      at 2 l (omega arith),
      at 3 l (omega arith),
      at 4 l (omega arith),
      at 5 l (omega arith),
      at 6 l (omega arith),
      key_back (record_at rs i).capacity,
      key_back (record_at rs i).sequence,
    )

pub agree-cells : (rs : List Record) (before cells : List ℕ) (count : ℕ) → cells ≡ fronted (written rs) before → count ≡ length rs → all_below count (stands (record_in cells)) ≡ agree rs
unfolding agree
agree-cells rs before cells count e n =
    rw (e, n) (all_below-same _ _ (length rs) (λ j l. stands_same _ _ j (λ i m. record_back rs _ i (omega arith))))
