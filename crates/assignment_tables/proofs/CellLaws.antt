-- What flags, keys and ranks are in range and out of it, and that a cell of a small table lies where it should. Assumes nothing.
use Prim.Native.Nat.{ℕ, suc, ◌+◌, ◌*◌, ◌/◌, ◌%◌, ◌≤◌, ◌<◌}
use mathlib.Core.Path.{◌≡◌, sym, ap, ◌∙◌}
use mathlib.Core.Bool.{true, false}
use mathlib.Core.List.{List}
use Rattle.std.specs.Prelude.{None, Some}
use native.Mathlib.Nat.{suc-mul, mul-le-mul, mul-le-mul_right}
use native.Mathlib.Omega.{arith}
use lib.Arith.{digits_div, digits_mod}
use lib.ListN.{get_or}
use lib.Dec.{ltb}
use lib.IntN.{ℤ, pos}
use borrow.Author.Tests.{lt-ltb, le-ltb, ltb-true}
use Rattle.basics.proofs.Bools.{and_left, and_right}
use Rattle.assignment_tables.specs.Cells.{is_set, row_flag, cell_flag, cell_key, row_rank}

pub cell_below : (rows columns r c : ℕ) → r < rows → c < columns → r * columns + c < rows * columns
cell_below rows columns r c p q = omega (arith, mul-le-mul_right {m = suc r} {n = rows} columns p, suc-mul r columns)

-- no two rows and columns have one cell
pub cell_apart : (columns row column r c : ℕ) → column < columns → c < columns → row * columns + column ≡ r * columns + c → (row ≡ r) × (column ≡ c)
cell_apart columns row column r c a b e = (
  sym (digits_div row a) ∙ ap (λ (x : ℕ). x / columns) e ∙ digits_div r b,
  sym (digits_mod row a) ∙ ap (λ (x : ℕ). x % columns) e ∙ digits_mod r b,
)

pub cell-small : (rows columns : ℕ) → rows ≤ 128 → columns ≤ 128 → rows * columns ≤ 16384
cell-small rows columns p q = mul-le-mul {n₁ = rows} {m₁ = columns} {n₂ = 128} {m₂ = 128} p q

module _ (rows from : ℕ) (m : List ℕ) (r : ℕ) where
  pub row_in : r < rows → is_set (get_or m (from + r) 0) ≡ row_flag rows from m r
  unfolding row_flag
  row_in p = rw (lt-ltb _ _ p)

  pub row_out : rows ≤ r → false ≡ row_flag rows from m r
  unfolding row_flag
  row_out p = rw (le-ltb _ _ p)

  -- a flag that is set is in range
  pub row-set : row_flag rows from m r ≡ true → r < rows
  unfolding row_flag
  row-set e = ltb-true _ _ (and_left (ltb r rows) _ e)

  module _ (start : ℕ) (p : List ℤ) where
    pub rank_in : (x : ℤ) → x ≡ get_or p (start + r) (pos 0) → row_flag rows from m r ≡ true → Some x ≡ row_rank rows from start m p r
    unfolding row_rank
    rank_in x q e = rw (e, q)

    pub rank_out : row_flag rows from m r ≡ false → None ≡ row_rank rows from start m p r
    unfolding row_rank
    rank_out e = rw e

module _ (rows columns from : ℕ) (m : List ℕ) (r c : ℕ) where
  pub cell_in_lem : (i : ℕ) → i ≡ from + (r * columns + c) → r < rows → c < columns → is_set (get_or m i 0) ≡ cell_flag rows columns from m r c
  unfolding cell_flag
  cell_in_lem i e p q = rw (e, lt-ltb _ _ p, lt-ltb _ _ q)

  pub cell_out_row : rows ≤ r → false ≡ cell_flag rows columns from m r c
  unfolding cell_flag
  cell_out_row p = rw (le-ltb _ _ p)

  pub cell_out_column : r < rows → columns ≤ c → false ≡ cell_flag rows columns from m r c
  unfolding cell_flag
  cell_out_column p q = rw (lt-ltb _ _ p, le-ltb _ _ q)

  pub cell_set : cell_flag rows columns from m r c ≡ true → (r < rows) × (c < columns)
  unfolding cell_flag
  cell_set e = (
    ltb-true _ _ (and_left (ltb r rows) _ e),
    ltb-true _ _ (and_left (ltb c columns) _ (and_right (ltb r rows) _ e)),
  )

  module _ (start : ℕ) (k : List ℕ) where
    pub key_in : (i : ℕ) → i ≡ start + (r * columns + c) → cell_flag rows columns from m r c ≡ true → Some (get_or k i 0) ≡ cell_key rows columns from start m k r c
    unfolding cell_key
    key_in i e p = rw (p, e)

    pub key_out : cell_flag rows columns from m r c ≡ false → None ≡ cell_key rows columns from start m k r c
    unfolding cell_key
    key_out p = rw p
