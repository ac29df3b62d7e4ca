-- Filling a table of a slice. Assumes nothing.
use Prim.Native.Nat.{ℕ, ◌+◌, ◌*◌, ◌≤◌, ◌<◌}
use mathlib.Core.Path.{◌≡◌, ap, ◌∙◌}
use mathlib.Core.List.{List}
use native.Mathlib.Nat.{le_antisymm}
use native.Mathlib.Omega.{arith}
use lib.ListN.{length, set, replicate}
use borrow.Author.Tests.{eq-eqb, ne_eqb}
use Rattle.assignment_tables.specs.declared.Shape.{Shape}
use Rattle.assignment_tables.specs.Layout.{legal_start, capacity_given_start, sequence_given_start, sequence_start, marks_length, keys_length}
use Rattle.assignment_tables.proofs.CellLaws.{cell_below, cell-small}
use Rattle.listing_reading.specs.Cells.{record_in}
use Rattle.listing_shape.specs.Counts.{cell_in}
use Rattle.listing_shape.proofs.CountLaws.{Told, count-above}
use Rattle.listing_tables.specs.Filled.{scattered, place_in, flag_in, Fitting, file_marks, file_keys}
use Rattle.listing_tables.proofs.ScatterLaws.{scatter_more, scatter_length}

-- ---- a record's place and flag

module _ (cells : List ℕ) (column i : ℕ) where
  pub flag_always : column ≡ 0 → 1 ≡ flag_in cells column i
  unfolding flag_in
  flag_always e = rw (eq-eqb column 0 e)

  module _ (f : column ≡ 0 → ⊥) where
    pub flag_no : cell_in cells column i ≡ 0 → 0 ≡ flag_in cells column i
    unfolding flag_in
    flag_no e = rw (ne_eqb column 0 f, eq-eqb (cell_in cells column i) 0 e)

    pub flag-yes : (cell_in cells column i ≡ 0 → ⊥) → 1 ≡ flag_in cells column i
    unfolding flag_in
    flag-yes g = rw (ne_eqb column 0 f, ne_eqb (cell_in cells column i) 0 g)

-- the records fit the shape that is told of them
pub fits_told : (cells : List ℕ) (n : ℕ) (S : Shape) → 51100 ≤ length cells → Told cells n S → Fitting cells n S.rows S.values
fits_told cells n S room t = record {
  room = room;
  few_rows = t.few_rows;
  few_values = t.few_values;
  row = λ i l. rw t.rows (count-above (λ (k : ℕ). (record_in cells k).row) n i l);
  value = λ i l. rw t.values (count-above (λ (k : ℕ). (record_in cells k).value) n i l);
}

pub fitting_fewer : (cells : List ℕ) (n rows values i : ℕ) → Fitting cells n rows values → i < n → Fitting cells (i + 1) rows values
fitting_fewer cells n rows values i h l = record {
  room = h.room;
  few_rows = h.few_rows;
  few_values = h.few_values;
  row = λ k b. h.row k (omega arith);
  value = λ k b. h.value k (omega arith);
}

-- the place is in the table
pub record Placed (cells : List ℕ) (rows values i : ℕ) : Type 0 where
  pub inside : (record_in cells i).row * values + (record_in cells i).value < rows * values
  pub small : rows * values ≤ 16384

pub placed : (cells : List ℕ) (n rows values i : ℕ) → Fitting cells n rows values → i < n → Placed cells rows values i
placed cells n rows values i h l = record {
  inside = cell_below rows values (record_in cells i).row (record_in cells i).value (h.row i l) (h.value i l);
  small = cell-small rows values h.few_rows (omega (arith, h.few_values));
}

-- ---- filling, one record a turn

module _ (place what : ℕ → ℕ) (s t : List ℕ) (i : ℕ) (e : t ≡ scattered place what i s) where
  pub fill_long : length t ≡ length s
  fill_long = ap length e ∙ scatter_length place what s i

  pub fill_turn : (p w : ℕ) → p ≡ place i → w ≡ what i → set t p w ≡ scattered place what (i + 1) s
  fill_turn p w f g = rw (e, f, g) (scatter_more place what s i)

  pub fill_end : (n : ℕ) → i ≤ n → n ≤ i → t ≡ scattered place what n s
  fill_end n a b = e ∙ ap (λ (k : ℕ). scattered place what k s) (le_antisymm a b)

-- ---- all tables of a slice

module _ (S : Shape) (cells : List ℕ) (n : ℕ) where
  pub marks-filled : (a b d : ℕ) (before z x y m : List ℕ) → a ≡ legal_start S → b ≡ capacity_given_start S → d ≡ sequence_given_start S → length before ≡ marks_length S
      → z ≡ replicate (length before) 0
      → x ≡ scattered (place_in cells S.values a) (flag_in cells 0) n z
      → y ≡ scattered (place_in cells S.values b) (flag_in cells 3) n x
      → m ≡ scattered (place_in cells S.values d) (flag_in cells 5) n y
      → m ≡ file_marks S cells n
  unfolding file_marks
  marks-filled a b d before z x y m ea eb ed long ez ex ey em = em ∙ rw (ey, ex, ez, long, ea, eb, ed)

  pub keys_filled : (d : ℕ) (before z x k : List ℕ) → d ≡ sequence_start S → length before ≡ keys_length S
      → z ≡ replicate (length before) 0
      → x ≡ scattered (place_in cells S.values 0) (cell_in cells 4) n z
      → k ≡ scattered (place_in cells S.values d) (cell_in cells 6) n x
      → k ≡ file_keys S cells n
  unfolding file_keys
  keys_filled d before z x k ed long ez ex ek = ek ∙ rw (ex, ez, long, ed)
