-- What packing leaves, turn by turn, and that it is board T. Assumes nothing.
use Prim.Native.Nat.{ℕ, ◌+◌, ◌*◌, ◌≤◌}
use mathlib.Core.Path.{◌≡◌, refl, ap, ◌∙◌}
use mathlib.Core.List.{List}
use native.Mathlib.Nat.{le_antisymm}
use native.Mathlib.Numerals.{add-one}
use lib.ListN.{set, replicate}
use Rattle.blackboard.specs.BoardT.{tables_t}
use Rattle.show_index.specs.Packed.{cell_marks, cell_keys, cells_marks, cells_keys, row_marks, rows_marks, rows_keys, packed_marks}

pub board-t-marks : packed_marks (replicate 328 0) ≡ tables_t.marks
unfolding packed_marks rows_marks row_marks cells_marks cell_marks tables_t
board-t-marks = refl

pub board-t-keys : rows_keys 4 (replicate 24 0) ≡ tables_t.keys
unfolding rows_keys cells_keys cell_keys tables_t
board-t-keys = refl

-- ---- one cell: where its tables start, and where it stands in each

pub cell_packed : (row value from legals givens firsts candidate legal given key : ℕ) (marks keys : List ℕ)
    → from ≡ 20 → legals ≡ 276 → givens ≡ 288 → firsts ≡ 0 → candidate ≡ from + (row * 64 + value) → legal ≡ legals + (row * 3 + value)
    → given ≡ givens + (row * 3 + value) → key ≡ firsts + (row * 3 + value)
    → (set (set (set marks candidate value) legal 1) given 1 ≡ cell_marks row value marks) × (set keys key value ≡ cell_keys row value keys)
unfolding cell_marks cell_keys
cell_packed row value from legals givens firsts candidate legal given key marks keys f l g k c d h e =
    (rw (c, d, h, f, l, g), rw (e, k))

-- ---- the cells of a row

module _ (row : ℕ) (first : List ℕ) where
  pub no_cell : first ≡ cells_marks row 0 first
  unfolding cells_marks
  no_cell = refl

  pub no_key : first ≡ cells_keys row 0 first
  unfolding cells_keys
  no_key = refl

  module _ (n : ℕ) (cells after : List ℕ) where
    pub next_cell : cells ≡ cells_marks row n first → after ≡ cell_marks row n cells → after ≡ cells_marks row (n + 1) first
    unfolding cells_marks
    next_cell e s = rw add-one (s ∙ ap (cell_marks row n) e)

    pub next_key : cells ≡ cells_keys row n first → after ≡ cell_keys row n cells → after ≡ cells_keys row (n + 1) first
    unfolding cells_keys
    next_key e s = rw add-one (s ∙ ap (cell_keys row n) e)

pub row_packed : (row n empties counts : ℕ) (marks keys after last : List ℕ) → empties ≡ 4 → counts ≡ 16 → n ≤ 3 → 3 ≤ n
    → after ≡ cells_marks row n (set (set marks (empties + row) 1) (counts + row) 3) → last ≡ cells_keys row n keys
    → (after ≡ row_marks row marks) × (last ≡ cells_keys row 3 keys)
unfolding row_marks
row_packed row n empties counts marks keys after last e c a b m k =
    let all : n ≡ 3 = le_antisymm a b in (rw (e, c, all) at m, rw all at k)

-- ---- the rows

module _ (first : List ℕ) where
  pub no_row : first ≡ rows_marks 0 first
  unfolding rows_marks
  no_row = refl

  pub no_row-keys : first ≡ rows_keys 0 first
  unfolding rows_keys
  no_row-keys = refl

  module _ (n : ℕ) (cells after : List ℕ) where
    pub next_row : cells ≡ rows_marks n first → after ≡ row_marks n cells → after ≡ rows_marks (n + 1) first
    unfolding rows_marks
    next_row e s = rw add-one (s ∙ ap (row_marks n) e)

    pub next_row-keys : cells ≡ rows_keys n first → after ≡ cells_keys n 3 cells → after ≡ rows_keys (n + 1) first
    unfolding rows_keys
    next_row-keys e s = rw add-one (s ∙ ap (cells_keys n 3) e)

pub all_packed : (n required : ℕ) (marks keys after last : List ℕ) → marks ≡ replicate 328 0 → keys ≡ replicate 24 0 → required ≡ 0 → n ≤ 4 → 4 ≤ n
    → after ≡ rows_marks n (set (set marks required 1) (required + 1) 1) → last ≡ rows_keys n keys → (after ≡ tables_t.marks) × (last ≡ tables_t.keys)
unfolding packed_marks
all_packed n required marks keys after last p q r a b m k =
    let all : n ≡ 4 = le_antisymm a b in
    let marked : after ≡ packed_marks marks = rw (r, all) at m in
    let keyed : last ≡ rows_keys 4 keys = rw all at k in
    (marked ∙ ap packed_marks p ∙ board-t-marks, keyed ∙ ap (rows_keys 4) q ∙ board-t-keys)
