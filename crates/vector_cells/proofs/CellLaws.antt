-- Cells that are set one by one. Assumes nothing.
use Prim.Native.Nat.{ℕ, ◌+◌, ◌≤◌}
use mathlib.Core.Path.{◌≡◌, refl, sym, ap, ◌∙◌}
use mathlib.Core.List.{List}
use native.Mathlib.Nat.{le_antisymm}
use native.Mathlib.Numerals.{add-one}
use lib.ListN.{length, get_or, set}
use lib.Seq.{set_out}
use Rattle.vector_words.specs.Words.{ahead}
use Rattle.vector_cells.specs.Cells.{set_below, copied_at}

-- a cell that is not there
pub not_set : {A : Type 0} (cells : List A) (at : ℕ) (cell : A) → length cells ≤ at → cells ≡ set cells at cell
not_set cells at cell h = sym (set_out cells at cell h)

-- ---- a loop that sets a cell a turn

module _ {A : Type 0} (place : ℕ → ℕ) (value : ℕ → A) where
  pub none_set : (cells : List A) → cells ≡ set_below place value 0 cells
  unfolding set_below
  none_set cells = refl

  pub one_set : (i at : ℕ) (cell : A) (before cells after : List A) → cells ≡ set_below place value i before → at ≡ place i → cell ≡ value i
      → after ≡ set cells at cell → after ≡ set_below place value (i + 1) before
  unfolding set_below
  one_set i at cell before cells after e p q s = rw add-one (s ∙ rw (e, p, q))

  pub all_set : (n i : ℕ) (before cells : List A) → i ≤ n → n ≤ i → cells ≡ set_below place value i before → cells ≡ set_below place value n before
  all_set n i before cells a b e = e ∙ ap (λ (j : ℕ). set_below place value j before) (le_antisymm a b)

pub copied_word : (words : List ℕ) (at i place word : ℕ) → place ≡ ahead at i → word ≡ get_or words place 0 → word ≡ copied_at words at i
unfolding copied_at
copied_word words at i place word e p = p ∙ ap (λ (j : ℕ). get_or words j 0) e
