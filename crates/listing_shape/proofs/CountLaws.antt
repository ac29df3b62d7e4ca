-- One more than the largest of some numbers. Assumes nothing.
use Prim.Native.Nat.{ℕ, zero, suc, ◌+◌, ◌*◌, ◌≤◌, ◌<◌, max}
use mathlib.Core.Path.{◌≡◌, refl, sym, ap, ◌∙◌}
use native.Mathlib.Nat.{add-zero}
use native.Mathlib.Numerals.{add-one}
use native.Mathlib.Omega.{arith}
use borrow.Author.Tests.{le-leb, lt-leb}
use mathlib.Core.Bool.{false, ◌&&◌}
use lib.Dec.{leb}
use Rattle.basics.proofs.Bools.{by, either}
use lib.ListN.{get_or}
use mathlib.Core.List.{List}
use Rattle.std.specs.Prelude.{Option, None, Some}
use Rattle.assignment_tables.specs.declared.Shape.{Shape}
use Rattle.listing_reading.specs.Cells.{record_in}
use Rattle.listing_shape.specs.FileBoard.{count_over}
use Rattle.listing_shape.specs.Counts.{counted, cell_in, file_shape}

module _ (f : ℕ → ℕ) where
  pub count_none : 0 ≡ count_over 0 f
  unfolding count_over
  count_none = refl

  pub count-more : (n m : ℕ) → m ≡ count_over n f → max m (f n + 1) ≡ count_over (n + 1) f
  unfolding count_over
  count-more n m e = rw (e, add-one n)

  -- each number is below the count
  pub count-above : (n i : ℕ) → i < n → f i < count_over n f
  unfolding count_over
  count-above zero i l = absurd (omega arith)
  count-above (suc n) i l =
      by i n
      (λ k. omega (arith, count-above n i k))
      (λ k. let e : i ≡ n = omega arith in rw e (omega arith))

pub within : (limit n m : ℕ) → m ≡ n → m ≤ limit → Some m ≡ counted limit n
unfolding counted
within limit n m e h = rw (← e, le-leb m limit h)

pub over : (limit n k : ℕ) → limit ≤ k → k < n → None ≡ counted limit n
unfolding counted
over limit n k h l = rw (lt-leb n limit (omega arith))

pub count_same : (f g : ℕ → ℕ) (n : ℕ) → ((i : ℕ) → i < n → f i ≡ g i) → count_over n f ≡ count_over n g
unfolding count_over
count_same f g zero h = refl
count_same f g (suc n) h = rw (h n (omega arith), count_same f g n (λ i l. h i (omega arith)))

-- ---- the shape

within_so : (limit n m : ℕ) → Some m ≡ counted limit n → (m ≡ n) × (n ≤ limit)
unfolding counted
within_so limit n m e =
    by limit n
    (λ l. let q : Some m ≡ None = rw (lt-leb n limit l) at e in let z : ◌≡◌ {A = ℕ} 0 1 = cc in absurd (omega arith))
    (λ l. let q : Some m ≡ Some n = rw (le-leb n limit l) at e in let same : m ≡ n = cc in (same, l))

over_so : (limit n : ℕ) → None ≡ counted limit n → limit < n
unfolding counted
over_so limit n e =
    by limit n
    (λ l. l)
    (λ l. let q : None ≡ Some n = rw (le-leb n limit l) at e in let z : ◌≡◌ {A = ℕ} 0 1 = cc in absurd (omega arith))

module _ (cells : List ℕ) (n : ℕ) where
  abbrev row_count : ℕ
  row_count = count_over n (λ (i : ℕ). (record_in cells i).row)

  abbrev value_count : ℕ
  value_count = count_over n (λ (i : ℕ). (record_in cells i).value)

  first-column : count_over n (cell_in cells 0) ≡ row_count
  first-column = count_same _ _ n (λ i l. ap (λ (k : ℕ). get_or cells k 0) (add-zero (i * 7)))

  pub rows_over : (r : Option ℕ) → r ≡ counted 128 (count_over n (cell_in cells 0)) → r ≡ None → None ≡ file_shape cells n
  unfolding file_shape
  rows_over r e o = let l : 128 < row_count = omega (arith, over_so 128 _ (sym o ∙ e), first-column) in rw (lt-leb row_count 128 l)

  module _ (r : Option ℕ) (rows : ℕ) (e : r ≡ counted 128 (count_over n (cell_in cells 0))) (w : r ≡ Some rows) where
    same_rows : (rows ≡ row_count) × (row_count ≤ 128)
    same_rows = let (p, q) = within_so 128 _ rows (sym w ∙ e) in (p ∙ first-column, omega (arith, first-column))

    pub values-over : (q : Option ℕ) → q ≡ counted 64 (count_over n (cell_in cells 1)) → q ≡ None → None ≡ file_shape cells n
    unfolding file_shape
    values-over q f o = rw (le-leb row_count 128 same_rows.1, lt-leb value_count 64 (over_so 64 value_count (sym o ∙ f)))

    pub shape_so : (q : Option ℕ) (values : ℕ) → q ≡ counted 64 (count_over n (cell_in cells 1)) → q ≡ Some values
        → Some (record { rows = rows; values = values; edge_rule = 0 }) ≡ file_shape cells n
    unfolding file_shape
    shape_so q values f v =
        let (p, l) = within_so 64 value_count values (sym v ∙ f) in
        rw (le-leb row_count 128 same_rows.1, le-leb value_count 64 l, same_rows.0, p)

-- a shape that is told is the file's, and small
pub record Told (cells : List ℕ) (n : ℕ) (S : Shape) : Type 0 where
  pub rows : S.rows ≡ count_over n (λ (i : ℕ). (record_in cells i).row)
  pub values : S.values ≡ count_over n (λ (i : ℕ). (record_in cells i).value)
  pub no_rule : S.edge_rule ≡ 0
  pub few_rows : S.rows ≤ 128
  pub few_values : S.values ≤ 64

pub told : (cells : List ℕ) (n : ℕ) (S : Shape) → Some S ≡ file_shape cells n → Told cells n S
unfolding file_shape
told cells n S e =
    by 128 (row_count cells n)
    (λ l. absurd (not_large (rw (lt-leb (row_count cells n) 128 l) at e)))
    (λ l. by 64 (value_count cells n)
    (λ m. absurd (not_large (rw (le-leb (row_count cells n) 128 l, lt-leb (value_count cells n) 64 m) at e)))
    (λ m.
    let q : Some S ≡ Some (record { rows = row_count cells n; values = value_count cells n; edge_rule = 0 }) = rw (le-leb (row_count cells n) 128 l, le-leb (value_count cells n) 64 m) at e in
    let same : S ≡ record { rows = row_count cells n; values = value_count cells n; edge_rule = 0 } = cc in
    rw same (record { rows = refl; values = refl; no_rule = refl; few_rows = l; few_values = m })))
  where
    not_large : Some S ≡ None → ⊥
    not_large q = let z : ◌≡◌ {A = ℕ} 0 1 = cc in omega arith

-- where none is told, rows or values are too many
pub not_told : (cells : List ℕ) (n : ℕ) → None ≡ file_shape cells n → leb (row_count cells n) 128 && leb (value_count cells n) 64 ≡ false
unfolding file_shape
not_told cells n e =
    either (leb (row_count cells n) 128)
    (λ a. either (leb (value_count cells n) 64)
    (λ b. let q : None ≡ Some (record { rows = row_count cells n; values = value_count cells n; edge_rule = 0 }) = rw (a, b) at e in let z : ◌≡◌ {A = ℕ} 0 1 = cc in absurd (omega arith))
    (λ b. rw (a, b)))
    (λ a. rw a)
